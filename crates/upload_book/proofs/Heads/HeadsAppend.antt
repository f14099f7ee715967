-- The heads of a book follow a PATCH.
use Rattle.std.proofs.Common.{◌≡◌, ℕ, true, false, eqb, set, Option, Some, None, IfSome, Result, Ok, Err, refl, inr, ap, sym, ◌∙◌, arith}
use Rattle.std.specs.Option.{option_map}
use Rattle.std.proofs.lemmas.Bool.Decides.{nat_tests}
use Rattle.upload_book.specs.Account.{account_in}
use Rattle.upload_book.specs.Append.{append_refusal, appended, or_else, upload_with, with_appended}
use Rattle.upload_book.specs.Change.{book_after_change, head_change, put_appended}
use Rattle.upload_book.specs.Chunk.{Chunk}
use Rattle.upload_book.specs.declared.append.Refused.{Refused}
use Rattle.upload_book.specs.declared.board_line.HeadChange.TheVariants.{Put}
use Rattle.upload_book.specs.declared.change.Change.TheVariants.{Append}
use Rattle.upload_book.specs.declared.head_row.Name.{Name}
use Rattle.upload_book.specs.declared.refusal.Refusal.{Refusal}
use Rattle.upload_book.specs.declared.settings.Numbers.{Numbers}
use Rattle.upload_book.specs.Heads.{HeadPart, head_part, head_part_at, heads_of, with_row}
use Rattle.upload_book.specs.HeadSteps.{MayBecome}
use Rattle.upload_book.specs.laws.Steps.{LeadsTo}
use Rattle.upload_book.specs.Lawful.{IsLawful}
use Rattle.upload_book.specs.PlainBook.{PlainBook, tenant_book, with_tenant_book}
use Rattle.upload_book.specs.TenantBook.{TenantBook, is_given, kept_in, visible_upload, with_changed}
use Rattle.upload_book.specs.Upload.{Upload, head_row_of}
use Rattle.upload_book.proofs.Steps.BookLemmas.{IsLawful-append}
use Rattle.upload_book.proofs.Lawful.Entries.{visible_in-Ok, visible_in-fresh}
use Rattle.upload_book.proofs.Heads.HeadParts.{IsFollowed, followed-part, followed-stays, head_part-changed, head_part-tenant, leads-part, line_to, row-kept, visible-within}
use Rattle.upload_book.proofs.Lawful.LawfulAppend.{offset_of-append}

-- the row of an upload that is kept under an id stands among the heads
pub row-stands : (b : PlainBook) (t id now : ℕ) (u : Upload) → visible_upload (tenant_book b t) id now ≡ Ok u → kept_in (head_part_at (heads_of b) t).uploads id ≡ Some (head_row_of u)
row-stands b t id now u seen =
    ap (λ (part : HeadPart). kept_in part.uploads id) (head_part-tenant b t) ∙ row-kept (tenant_book b t).uploads id ∙ ap (option_map head_row_of) (visible_in-Ok (λ (u : Upload). u.expires) (tenant_book b t) id now u seen)

-- a length that is known stays
known-stays : (known told : Option ℕ) → IfSome known (λ n. or_else known told ≡ Some n)
known-stays None told = tt
known-stays (Some n) told = refl

-- a row may become that after a PATCH
becomes-appended : (n : Numbers) (u : Upload) (chunk : Chunk) (now : ℕ) → MayBecome (head_row_of u) (head_row_of (upload_with n u chunk now))
becomes-appended n u chunk now = record {
  kind = refl;
  metadata = refl;
  concat = refl;
  offset = omega (arith, offset_of-append n u chunk now);
  declared = known-stays u.declared chunk.length;
}

-- an id that was given is not the next one
given-before : (part : TenantBook) (id : ℕ) → is_given part id ≡ true → eqb id part.next ≡ false
given-before part id given = grind (arith, nat_tests)

-- so a row under it is that of a changed upload
row-changed : (part : TenantBook) (id now : ℕ) (u later : Upload) → visible_upload part id now ≡ Ok u → with_row (head_part part) id (head_row_of later) ≡ head_part (with_changed part id later)
row-changed part id now u later seen =
    rw (given-before part id (visible_in-fresh (λ (u : Upload). u.expires) part id now u seen).0) (sym (head_part-changed part id later))

-- the line that puts the row of the upload with the bytes leads to the book with it
leads-append : (b : PlainBook) (name : Name) (chunk : Chunk) (now : ℕ) (u : Upload) → visible_upload (tenant_book b name.tenant) name.id now ≡ Ok u → IsLawful (with_tenant_book b name.tenant (with_changed (tenant_book b name.tenant) name.id (upload_with b.settings.numbers u chunk now)))
    → let after = with_tenant_book b name.tenant (with_changed (tenant_book b name.tenant) name.id (upload_with b.settings.numbers u chunk now)) in
    LeadsTo b (line_to after (Put name (head_row_of (upload_with b.settings.numbers u chunk now)))) after
leads-append b name chunk now u seen lawful =
    let later : Upload = upload_with b.settings.numbers u chunk now in
    leads-part b name.tenant (with_changed (tenant_book b name.tenant) name.id later) (Put name (head_row_of later)) lawful
    (ap (λ (part : HeadPart). set (heads_of b).tenants name.tenant (with_row part name.id (head_row_of later))) (head_part-tenant b name.tenant) ∙ ap (set (heads_of b).tenants name.tenant) (row-changed (tenant_book b name.tenant) name.id now u later seen))
    (inr (record { old = head_row_of u; stands = row-stands b name.tenant name.id now u seen; becomes = becomes-appended b.settings.numbers u chunk now }))

-- the upload after a PATCH that is not refused,
pub appended-none : (n : Numbers) (part : TenantBook) (id now charged : ℕ) (u : Upload) (chunk : Chunk) → visible_upload part id now ≡ Ok u → append_refusal n (account_in n part charged) (head_row_of u) chunk ≡ None
    → appended id chunk now charged n part ≡ Ok (upload_with n u chunk now)
appended-none n part id now charged u chunk seen none = rw (seen, none) refl

-- of one that is,
appended-refused : (n : Numbers) (part : TenantBook) (id now charged : ℕ) (u : Upload) (chunk : Chunk) (why : Refusal) → visible_upload part id now ≡ Ok u → append_refusal n (account_in n part charged) (head_row_of u) chunk ≡ Some why
    → appended id chunk now charged n part ≡ Err (record { refusal = why; expires = u.expires })
appended-refused n part id now charged u chunk why seen is = rw (seen, is) refl

-- and of one of what is not visible
appended-unseen : (n : Numbers) (part : TenantBook) (id now charged : ℕ) (chunk : Chunk) (why : Refusal) → visible_upload part id now ≡ Err why → appended id chunk now charged n part ≡ Err (record { refusal = why; expires = None })
appended-unseen n part id now charged chunk why unseen = rw unseen refl

pub heads-append : (b : PlainBook) (name : Name) (chunk : Chunk) (now : ℕ) → IsLawful b → IsFollowed b (book_after_change b (Append name chunk) now) (head_change b (Append name chunk) now)
heads-append b name chunk now lawful = by_seen (visible_upload (tenant_book b name.tenant) name.id now) refl where
  refused : (why : Refused) → appended name.id chunk now b.charged b.settings.numbers (tenant_book b name.tenant) ≡ Err why → IsFollowed b (book_after_change b (Append name chunk) now) (head_change b (Append name chunk) now)
  refused why is = followed-stays b name.tenant _ _ (ap (put_appended name) is) (ap (with_appended (tenant_book b name.tenant) name.id) is)

  by_refusal : (u : Upload) → visible_upload (tenant_book b name.tenant) name.id now ≡ Ok u
      → (found : Option Refusal) → append_refusal b.settings.numbers (account_in b.settings.numbers (tenant_book b name.tenant) b.charged) (head_row_of u) chunk ≡ found
      → IsFollowed b (book_after_change b (Append name chunk) now) (head_change b (Append name chunk) now)
  by_refusal u seen None none =
      let is = appended-none b.settings.numbers (tenant_book b name.tenant) name.id now b.charged u chunk seen none in
      followed-part b name.tenant _ (with_changed (tenant_book b name.tenant) name.id (upload_with b.settings.numbers u chunk now)) _ (Put name (head_row_of (upload_with b.settings.numbers u chunk now)))
      (ap (put_appended name) is) (ap (with_appended (tenant_book b name.tenant) name.id) is)
      (leads-append b name chunk now u seen
      (IsLawful-append b name.tenant name.id u chunk now lawful (visible-within b name.tenant name.id now u seen) (visible_in-Ok (λ (u : Upload). u.expires) (tenant_book b name.tenant) name.id now u seen) none))
  by_refusal u seen (Some why) is =
      refused _ (appended-refused b.settings.numbers (tenant_book b name.tenant) name.id now b.charged u chunk why seen is)

  by_seen : (seen : Result Upload Refusal) → visible_upload (tenant_book b name.tenant) name.id now ≡ seen → IsFollowed b (book_after_change b (Append name chunk) now) (head_change b (Append name chunk) now)
  by_seen (Ok u) is =
      by_refusal u is (append_refusal b.settings.numbers (account_in b.settings.numbers (tenant_book b name.tenant) b.charged) (head_row_of u) chunk) refl
  by_seen (Err why) is = refused _ (appended-unseen b.settings.numbers (tenant_book b name.tenant) name.id now b.charged chunk why is)
