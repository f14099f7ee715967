-- What happened to a book: its changes, each at its moment.
use Rattle.std.specs.Prelude.{◌≡◌, ℕ, List, [], ◌∷◌, Contains, IsOk, Some}
use Rattle.upload_book.specs.declared.change.Change.{Change}
use Rattle.upload_book.specs.declared.change.Change.TheVariants as change
use Rattle.upload_book.specs.declared.head_row.Name.{Name}
use Rattle.upload_book.specs.Change.{book_after_change}
use Rattle.upload_book.specs.Concat.{concat_answer, joined_upload}
use Rattle.upload_book.specs.NewFinal.{NewFinal}
use Rattle.upload_book.specs.PlainBook.{PlainBook, answer_of, tenant_book}
use Rattle.upload_book.specs.TenantBook.{kept_in}
use Rattle.upload_book.specs.Upload.{Upload}

-- a change, with the bytes that it carries, and its moment
pub record ChangeEvent : Type 0 where
  pub change : Change
  pub now : ℕ

-- the book after it
abbrev pub book_after_event : PlainBook → ChangeEvent → PlainBook
book_after_event b e = book_after_change b e.change e.now

-- the book after several, one after another
abbrev pub book_after_all : PlainBook → List ChangeEvent → PlainBook
book_after_all b [] = b
book_after_all b (e ∷ events) = book_after_all (book_after_event b e) events

-- the upload stands under the name
abbrev pub StandsAs : PlainBook → Name → Upload → Type 0
StandsAs b name u = kept_in (tenant_book b name.tenant).uploads name.id ≡ Some u

-- the book has the upload, under this name
abbrev pub HasUpload : PlainBook → Name → Upload → Type 0
HasUpload b name u = Contains (tenant_book b name.tenant).uploads (record { id = name.id; kept = u })

-- The event is the concatenation that made this final upload: it was accepted on this book, the upload got the tenant's
-- next id, and it is the parts that were there then, one after another.
pub record IsJoinedBy (b : PlainBook) (e : ChangeEvent) (name : Name) (u : Upload) : Type 0 where
  pub new : NewFinal
  pub is : e.change ≡ change.Concat name.tenant new
  pub accepted : IsOk (answer_of b name.tenant (concat_answer name.tenant new e.now))
  pub id : name.id ≡ (tenant_book b name.tenant).next
  pub upload : u ≡ joined_upload b.settings.numbers (tenant_book b name.tenant) new e.now
