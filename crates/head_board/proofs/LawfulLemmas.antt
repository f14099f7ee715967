-- A lawful book stays lawful, whatever happens to it.
use Rattle.std.proofs.Common.{◌≡◌, ℕ, ◌<◌, List, [], ◌∷◌, length, map, Option, Some, None, Result, Ok, Err, refl, sym, subst}
use Rattle.upload_book.specs.Account.{account_in}
use Rattle.upload_book.specs.Append.{append_answer, append_refusal}
use Rattle.upload_book.specs.Change.{CanBeMade, book_after_change}
use Rattle.upload_book.specs.Chunk.{Chunk}
use Rattle.upload_book.specs.Concat.{concat_refusal, part_after_concat}
use Rattle.upload_book.specs.Create.{creation_refusal}
use Rattle.upload_book.specs.declared.append.Refused.{Refused}
use Rattle.upload_book.specs.declared.change.Change.{Change}
use Rattle.upload_book.specs.declared.change.Change.TheVariants.{Append, Concat, Create, Restore, Sweep, Terminate}
use Rattle.upload_book.specs.declared.head_row.Name.{Name}
use Rattle.upload_book.specs.declared.refusal.Refusal.{Refusal}
use Rattle.upload_book.specs.declared.settings.Numbers.{Numbers}
use Rattle.upload_book.specs.Events.{ChangeEvent, book_after_all, book_after_event}
use Rattle.upload_book.specs.FirstChunk.{FirstChunk}
use Rattle.upload_book.specs.Lawful.{IsLawful}
use Rattle.upload_book.specs.NewFinal.{NewFinal}
use Rattle.upload_book.specs.NewUpload.{NewUpload}
use Rattle.upload_book.specs.PlainBook.{PlainBook, opening_book, tenant_book, with_tenant_book}
use Rattle.upload_book.specs.TenantBook.{TenantBook, visible_upload}
use Rattle.upload_book.specs.Upload.{Upload, head_row_of}
use Rattle.upload_book.proofs.Heads.HeadParts.{visible-within}
use Rattle.upload_book.proofs.Heads.LineLemmas.{tenants-settings}
use Rattle.upload_book.proofs.Lawful.AppendLemmas.{part_after_append-none, part_after_append-refused}
use Rattle.upload_book.proofs.Lawful.Entries.{visible_in-Ok}
use Rattle.upload_book.proofs.Lawful.LawfulConcat.{HasLawfulParts}
use Rattle.upload_book.proofs.Lawful.LawfulCreate.{HasLawfulTexts}
use Rattle.upload_book.proofs.Lawful.LawfulFewer.{IsLawful-sweep, IsLawful-without}
use Rattle.upload_book.proofs.Lawful.LawfulSteps.{IsLawful-opening}
use Rattle.upload_book.proofs.Lawful.Outcomes.{create_answer-refused, part_after_concat-none, part_after_create-none, part_after_create-refused, part_after_terminate-refused, part_after_terminate-visible}
use Rattle.upload_book.proofs.Restoring.LawfulBack.{IsLawful-piece}
use Rattle.upload_book.proofs.Steps.BookLemmas.{IsLawful-append, IsLawful-concat, IsLawful-create, with_tenant_book-itself}
use Rattle.head_board.specs.Event.{Event}
use Rattle.head_board.specs.Events.{AllHappen, Happens, change_event}
use Rattle.head_board.specs.Laws.{BooksStayLawful}

-- the book with a part in place of a tenant's is lawful where it is so with another name of that part
with-part : (b : PlainBook) (t : ℕ) (part later : TenantBook) → later ≡ part → IsLawful (with_tenant_book b t part) → IsLawful (with_tenant_book b t later)
with-part b t part later same lawful = subst (λ (part : TenantBook). IsLawful (with_tenant_book b t part)) (sym same) lawful

-- and where it is the tenant's own
with-own : (b : PlainBook) (t : ℕ) (later : TenantBook) → later ≡ tenant_book b t → IsLawful b → IsLawful (with_tenant_book b t later)
with-own b t later same lawful = with-part b t (tenant_book b t) later same (subst IsLawful (sym (with_tenant_book-itself b t)) lawful)

-- so it is after a creation,
after-create : (b : PlainBook) (t : ℕ) (new : NewUpload) (first : FirstChunk) (now : ℕ) → IsLawful b → t < length b.tenants → HasLawfulTexts new → IsLawful (book_after_change b (Create t new first) now)
after-create b t new first now lawful within texts =
    by_refusal (creation_refusal b.settings.numbers (account_in b.settings.numbers (tenant_book b t) b.charged) (tenant_book b t) new first) refl
  where
    by_refusal : (found : Option Refusal) → creation_refusal b.settings.numbers (account_in b.settings.numbers (tenant_book b t) b.charged) (tenant_book b t) new first ≡ found → IsLawful (book_after_change b (Create t new first) now)
    by_refusal None none =
        with-part b t _ _ (part_after_create-none b.settings.numbers (tenant_book b t) new first now b.charged none) (IsLawful-create b t new first now lawful within none texts)
    by_refusal (Some why) is =
        with-own b t _ (part_after_create-refused t b.settings.numbers (tenant_book b t) new first now b.charged why (create_answer-refused t b.settings.numbers (tenant_book b t) new first now b.charged why is)) lawful

-- after a PATCH,
after-append : (b : PlainBook) (name : Name) (chunk : Chunk) (now : ℕ) → IsLawful b → IsLawful (book_after_change b (Append name chunk) now)
after-append b name chunk now lawful = by_seen (visible_upload (tenant_book b name.tenant) name.id now) refl where
  refused : (why : Refused) → append_answer name.id chunk now b.charged b.settings.numbers (tenant_book b name.tenant) ≡ Err why → IsLawful (book_after_change b (Append name chunk) now)
  refused why is = with-own b name.tenant _ (part_after_append-refused name.id chunk now b.charged b.settings.numbers (tenant_book b name.tenant) why is) lawful

  by_refusal : (u : Upload) → visible_upload (tenant_book b name.tenant) name.id now ≡ Ok u
      → (found : Option Refusal) → append_refusal b.settings.numbers (account_in b.settings.numbers (tenant_book b name.tenant) b.charged) (head_row_of u) chunk ≡ found → IsLawful (book_after_change b (Append name chunk) now)
  by_refusal u seen None none =
      with-part b name.tenant _ _ (part_after_append-none b.settings.numbers (tenant_book b name.tenant) name.id now b.charged u chunk seen none)
      (IsLawful-append b name.tenant name.id u chunk now lawful (visible-within b name.tenant name.id now u seen) (visible_in-Ok (λ (u : Upload). u.expires) (tenant_book b name.tenant) name.id now u seen) none)
  by_refusal u seen (Some why) is =
      let told : append_answer name.id chunk now b.charged b.settings.numbers (tenant_book b name.tenant) ≡ Err (record { refusal = why; expires = u.expires }) = rw (seen, is) refl in
      refused _ told

  by_seen : (seen : Result Upload Refusal) → visible_upload (tenant_book b name.tenant) name.id now ≡ seen → IsLawful (book_after_change b (Append name chunk) now)
  by_seen (Ok u) is =
      by_refusal u is (append_refusal b.settings.numbers (account_in b.settings.numbers (tenant_book b name.tenant) b.charged) (head_row_of u) chunk) refl
  by_seen (Err why) is =
      let told : append_answer name.id chunk now b.charged b.settings.numbers (tenant_book b name.tenant) ≡ Err (record { refusal = why; expires = None }) = rw is refl in
      refused _ told

-- after a concatenation,
concat-stays : (n : Numbers) (part : TenantBook) (new : NewFinal) (now : ℕ) (why : Refusal) → concat_refusal n part new now ≡ Some why → part_after_concat new now n part ≡ part
concat-stays n part new now why is = rw is refl

after-concat : (b : PlainBook) (t : ℕ) (new : NewFinal) (now : ℕ) → IsLawful b → t < length b.tenants → HasLawfulParts new → IsLawful (book_after_change b (Concat t new) now)
after-concat b t new now lawful within asked = by_refusal (concat_refusal b.settings.numbers (tenant_book b t) new now) refl
  where
    by_refusal : (found : Option Refusal) → concat_refusal b.settings.numbers (tenant_book b t) new now ≡ found → IsLawful (book_after_change b (Concat t new) now)
    by_refusal None none = with-part b t _ _ (part_after_concat-none b.settings.numbers (tenant_book b t) new now none) (IsLawful-concat b t new now lawful within none asked)
    by_refusal (Some why) is = with-own b t _ (concat-stays b.settings.numbers (tenant_book b t) new now why is) lawful

-- after a DELETE,
after-terminate : (b : PlainBook) (name : Name) (now : ℕ) → IsLawful b → IsLawful (book_after_change b (Terminate name) now)
after-terminate b name now lawful = by_seen (visible_upload (tenant_book b name.tenant) name.id now) refl
  where
    by_seen : (seen : Result Upload Refusal) → visible_upload (tenant_book b name.tenant) name.id now ≡ seen → IsLawful (book_after_change b (Terminate name) now)
    by_seen (Ok u) is =
        with-part b name.tenant _ _ (part_after_terminate-visible b.settings.numbers (tenant_book b name.tenant) name.id now u is) (IsLawful-without b name.tenant name.id lawful (visible-within b name.tenant name.id now u is))
    by_seen (Err why) is = with-own b name.tenant _ (part_after_terminate-refused b.settings.numbers (tenant_book b name.tenant) name.id now why is) lawful

-- and after each change that the book may be asked for
after-change : (b : PlainBook) (change : Change) (now : ℕ) → IsLawful b → CanBeMade (length b.tenants) change → IsLawful (book_after_change b change now)
after-change b (Create tenant new first) now lawful can = after-create b tenant new first now lawful can.0 (record { metadata = can.1; concat = can.2 })
after-change b (Append name chunk) now lawful can = after-append b name chunk now lawful
after-change b (Concat tenant new) now lawful can = after-concat b tenant new now lawful can.0 (record { some = can.1; few = can.2; metadata = can.3; concat = can.4 })
after-change b (Terminate name) now lawful can = after-terminate b name now lawful
after-change b Sweep now lawful can = IsLawful-sweep b now lawful
after-change b (Restore restored) now lawful can = IsLawful-piece b restored lawful can

stays-lawful : (b : PlainBook) (events : List Event) → IsLawful b → AllHappen b events → IsLawful (book_after_all b (map {A = Event} {B = ChangeEvent} change_event events))
stays-lawful b [] lawful all = lawful
stays-lawful b (e ∷ events) lawful all =
    let here : Happens b e = all.0 in
    let asked : CanBeMade (length b.tenants) e.change = subst (λ (n : ℕ). CanBeMade n e.change) (sym (tenants-settings b lawful)) here.asked in
    stays-lawful (book_after_event b (change_event e)) events (after-change b e.change e.now lawful asked) all.1

pub books_stay_lawful : BooksStayLawful
books_stay_lawful = record {
  stays = stays-lawful;
  opened = λ s events sound all. stays-lawful (opening_book s) events (IsLawful-opening s sound) all;
}
