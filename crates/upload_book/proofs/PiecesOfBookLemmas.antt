-- A PATCH of a book that comes in pieces.
use Rattle.std.proofs.Common.{◌≡◌, ℕ, ◌+◌, ◌-◌, ◌<◌, ◌≤◌, ◌^◌, false, true≢false, List, [], ◌∷◌, ◌++◌, length, set, take, drop, not, eqb, unwrap_or, Result, Ok, Err, refl, sym, ap, subst, ◌∙◌, arith}
use Rattle.std.specs.Result.{IsOk}
use Rattle.std.proofs.lemmas.Bool.Decides.{nat_tests}
use Rattle.std.proofs.Math.ListN.{length-set}
use Rattle.std.proofs.lemmas.List.{get_or-set_same, set-set, take-append-drop}
use Rattle.std.proofs.lemmas.List.Elements.{All-head, All-tail}
use Rattle.upload_book.specs.Account.{account_in}
use Rattle.upload_book.specs.Append.{append_answer, is_too_long, or_else, part_after_append}
use Rattle.upload_book.specs.Charge.{charge_in}
use Rattle.upload_book.specs.Chunk.{Chunk}
use Rattle.upload_book.specs.declared.append.Appended.{Appended}
use Rattle.upload_book.specs.declared.append.Refused.{Refused}
use Rattle.upload_book.specs.declared.head_row.Name.{Name}
use Rattle.upload_book.specs.declared.settings.Numbers.{Numbers}
use Rattle.upload_book.specs.laws.Steps.{LastFinishes, later_part}
use Rattle.upload_book.specs.Lawful.{IsLawful}
use Rattle.upload_book.specs.laws.PiecedPatch.{Piece, first_piece}
use Rattle.upload_book.specs.laws.PiecedPatchOfBook.{PatchedBook, PiecedPatchOfBook, book_goes_on, book_in_pieces}
use Rattle.upload_book.specs.PlainBook.{PlainBook, answer_of, book_after, tenant_book, with_tenant_book}
use Rattle.upload_book.specs.TenantBook.{TenantBook, opening_part}
use Rattle.upload_book.specs.Upload.{offset_of}
use Rattle.upload_book.proofs.Lawful.LawfulAppend.{IsAppendable, IsAppendable-from_none}
use Rattle.upload_book.proofs.Lawful.SettingsLemmas.{max_size-within}
use Rattle.upload_book.proofs.LawsLemmas.{Accepts, Accepts-from_ok}
use Rattle.upload_book.proofs.PiecesLemmas.{GoesOn, GoesOn-first, finishes-first, finishes-on}
use Rattle.upload_book.proofs.Steps.BookLemmas.{IsLawful-append, IsTenantOf-book, book_with}

-- a part after a part that pays no less leaves the totals of one change
pub with_tenant_book-twice : (b : PlainBook) (t : ℕ) (middle last : TenantBook) → t < length b.tenants
    → charge_in b.settings.numbers (tenant_book b t) ≤ charge_in b.settings.numbers middle → charge_in b.settings.numbers middle ≤ charge_in b.settings.numbers last
    → with_tenant_book (with_tenant_book b t middle) t last ≡ with_tenant_book b t last
with_tenant_book-twice b t middle last within grows grows_on =
    let seen : tenant_book (with_tenant_book b t middle) t ≡ middle = get_or-set_same b.tenants t middle (opening_part 0) within in
    let parts : set (set b.tenants t middle) t last ≡ set b.tenants t last = set-set b.tenants t middle last in
    rw (seen, parts) (totals _ _ _ _ b (set b.tenants t last) (more _ _ _ _ grows grows_on) (less _ _ _ _ grows grows_on))
  where
    totals : (c d r s : ℕ) (book : PlainBook) (tenants : List TenantBook) → c ≡ d → r ≡ s → book_with book tenants c r ≡ book_with book tenants d s
    totals c d r s book tenants charged released = rw (charged, released) refl

    more : (charged a m l : ℕ) → a ≤ m → m ≤ l → charged + (m - a) + (l - m) ≡ charged + (l - a)
    more charged a m l le le' = omega arith

    less : (released a m l : ℕ) → a ≤ m → m ≤ l → released + (a - m) + (m - l) ≡ released + (a - l)
    less released a m l le le' = omega arith

-- what is known of a book after the first piece of a PATCH that would be accepted as one at a later moment
pub record BookGoesOn (b : PlainBook) (name : Name) (chunk : Chunk) (first later : List ℕ) (early now : ℕ) : Type 0 where
  pub accepted : IsOk (answer_of b name.tenant (append_answer name.id (first_piece chunk first later) early b.charged))
  pub lawful : IsLawful (book_after b name.tenant (part_after_append name.id (first_piece chunk first later) early b.charged))
  pub within : name.tenant < length (book_after b name.tenant (part_after_append name.id (first_piece chunk first later) early b.charged)).tenants
  pub answer : let after = book_after b name.tenant (part_after_append name.id (first_piece chunk first later) early b.charged) in
      answer_of after name.tenant (append_answer name.id (later_part chunk first later) now after.charged) ≡ answer_of b name.tenant (append_answer name.id chunk now b.charged)
  pub last : let after = book_after b name.tenant (part_after_append name.id (first_piece chunk first later) early b.charged) in
      book_after after name.tenant (part_after_append name.id (later_part chunk first later) now after.charged)
      ≡ book_after b name.tenant (part_after_append name.id chunk now b.charged)
  pub ends : chunk.offset + length chunk.bytes < 2 ^ 64

-- a PATCH that fits ends within the greatest size
ends_within : (n : Numbers) (offset_at offset most count : ℕ) → not (eqb offset_at offset) ≡ false → is_too_long n most (offset + count) ≡ false → offset_at + count ≤ n.max_size
ends_within n offset_at offset most count same fits = grind (arith, nat_tests)

pub BookGoesOn-first : (b : PlainBook) (name : Name) (chunk : Chunk) (first later : List ℕ) (early now : ℕ) → IsLawful b → name.tenant < length b.tenants → early ≤ now → chunk.bytes ≡ first ++ later
    → LastFinishes b.settings.numbers (length first) (length chunk.bytes) → IsOk (answer_of b name.tenant (append_answer name.id chunk now b.charged)) → BookGoesOn b name chunk first later early now
BookGoesOn-first b name chunk first later early now lawful within le whole finishes accepted = record {
  accepted = on.accepted;
  lawful =
      subst (λ (m : TenantBook). IsLawful (with_tenant_book b name.tenant m)) (sym on.made)
      (IsLawful-append b name.tenant name.id on.upload (first_piece chunk first later) early lawful within on.there on.unrefused);
  within = omega (arith, within, length-set b.tenants name.tenant middle);
  answer = ap (λ m. append_answer name.id two now after.charged n m) seen ∙ on.answer;
  last =
      ap (λ m. with_tenant_book after name.tenant (part_after_append name.id two now after.charged n m)) seen
      ∙ ap (with_tenant_book after name.tenant) on.after
      ∙ with_tenant_book-twice b name.tenant middle (part_after_append name.id chunk now b.charged n part) within on.grows on.grows_on;
  ends = omega (
    arith,
    max_size-within b.settings lawful.settings,
    ends_within n chunk.offset (offset_of found.u) (unwrap_or (or_else found.u.declared chunk.length) n.max_size) (length chunk.bytes) can.offset can.fits,
  );
}
  where
    n : Numbers
    n = b.settings.numbers

    part : TenantBook
    part = tenant_book b name.tenant

    two : Chunk
    two = later_part chunk first later

    middle : TenantBook
    middle = part_after_append name.id (first_piece chunk first later) early b.charged n part

    after : PlainBook
    after = with_tenant_book b name.tenant middle

    on : GoesOn n part name.id b.charged chunk first later early now
    on = GoesOn-first n part name.id b.charged chunk first later early now (IsTenantOf-book b name.tenant lawful within) le whole finishes accepted

    seen : tenant_book after name.tenant ≡ middle
    seen = get_or-set_same b.tenants name.tenant middle (opening_part 0) within

    found : Accepts n part name.id chunk now b.charged
    found = Accepts-from_ok n part name.id chunk now b.charged accepted

    can : IsAppendable n (account_in n part b.charged) found.u chunk
    can = IsAppendable-from_none n (account_in n part b.charged) found.u chunk found.none

-- it goes on where the piece is accepted
book_goes_on-accepted : (made : Result Appended Refused) (middle : PlainBook) (rest : PatchedBook) → IsOk made → book_goes_on made middle rest ≡ rest
book_goes_on-accepted (Ok b) middle rest accepted = refl
book_goes_on-accepted (Err why) middle rest accepted = absurd (true≢false (sym accepted))

-- what a PATCH comes to, of its parts
abbrev patched : Result Appended Refused → PlainBook → PatchedBook
patched answer book = record { answer = answer; book = book }

same_patched : (answer answer' : Result Appended Refused) (book book' : PlainBook) → answer ≡ answer' → book ≡ book' → patched answer book ≡ patched answer' book'
same_patched answer answer' book book' is after = rw (is, after) refl

pub pieced_patch_of_book : PiecedPatchOfBook
pieced_patch_of_book b name chunk [] now lawful within moments finishes accepted = refl
pieced_patch_of_book b name chunk (p ∷ pieces) now lawful within moments finishes accepted =
    book_goes_on-accepted (answer_of b name.tenant (append_answer name.id (first_piece chunk first later) p.now b.charged)) after (book_in_pieces name two pieces now after) on.accepted
    ∙ pieced_patch_of_book after name two pieces now on.lawful on.within (All-tail (λ (p : Piece). p.now ≤ now) p pieces moments) (finishes-on b.settings.numbers p pieces chunk.bytes finishes) (subst IsOk (sym on.answer) accepted)
    ∙ same_patched _ _ _ _ on.answer on.last
  where
    first : List ℕ
    first = take p.len chunk.bytes

    later : List ℕ
    later = drop p.len chunk.bytes

    two : Chunk
    two = later_part chunk first later

    after : PlainBook
    after = book_after b name.tenant (part_after_append name.id (first_piece chunk first later) p.now b.charged)

    on : BookGoesOn b name chunk first later p.now now
    on = BookGoesOn-first b name chunk first later p.now now lawful within (All-head (λ (p : Piece). p.now ≤ now) p pieces moments) (sym (take-append-drop p.len chunk.bytes)) (finishes-first b.settings.numbers p pieces chunk.bytes finishes) accepted
