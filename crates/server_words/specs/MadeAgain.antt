-- What the same changes make under other settings.
use Rattle.std.specs.Prelude.{◌≡◌, ℕ, ◌<◌, List, [], ◌∷◌, length, IsOk, ⊤}
use Rattle.upload_book.specs.Change.{change_answer}
use Rattle.upload_book.specs.Events.{ChangeEvent, book_after_all, book_after_event}
use Rattle.upload_book.specs.PlainBook.{PlainBook, opening_book, tenant_book}
use Rattle.upload_book.specs.Settings.{Settings}
use Rattle.upload_book.specs.TenantBook.{TenantBook}

-- a tenant has the same uploads under the same ids, each with its bytes, its length, its texts and its end, and the same id
-- comes next; its quota may be another
pub record IsSamePart (old new : TenantBook) : Type 0 where
  pub next : new.next ≡ old.next
  pub uploads : new.uploads ≡ old.uploads

-- a book accepts each of the changes after those before it
abbrev pub AllAccepted : PlainBook → List ChangeEvent → Type 0
AllAccepted b [] = ⊤
AllAccepted b (e ∷ events) = IsOk (change_answer b e.change e.now) × AllAccepted (book_after_event b e) events

-- changes that a book of the old settings accepted, and that one of the new settings accepts, make the same for each tenant of
-- the old ones
abbrev pub MakesTheSame : Settings → Settings → Type 0
MakesTheSame old new =
    (events : List ChangeEvent)
    → AllAccepted (opening_book old) events → AllAccepted (opening_book new) events
    → (tenant : ℕ) → tenant < length old.tenants
    → IsSamePart (tenant_book (book_after_all (opening_book old) events) tenant) (tenant_book (book_after_all (opening_book new) events) tenant)
