-- The heads of a book follow a piece that is put back.
use Rattle.std.proofs.Common.{◌≡◌, ℕ, ◌<◌, ◌≤◌, ltb, List, length, set, Option, Some, None, refl, ap, sym, subst, arith}
use Rattle.std.proofs.lemmas.Bool.{ltb-false}
use Rattle.upload_book.specs.Change.{book_after_change, head_change, head_of_piece, put_back}
use Rattle.upload_book.specs.declared.board_line.HeadChange.TheVariants.{Next, Put, Totals}
use Rattle.upload_book.specs.declared.change.Change.TheVariants.{Restore}
use Rattle.upload_book.specs.declared.refusal.Refusal.{Refusal}
use Rattle.upload_book.specs.declared.restored.Restored.{Restored}
use Rattle.upload_book.specs.declared.restored.Restored.TheVariants as piece
use Rattle.upload_book.specs.Heads.{HeadPart, heads_of}
use Rattle.upload_book.specs.laws.Steps.{LeadsTo}
use Rattle.upload_book.specs.Lawful.{IsLawful}
use Rattle.upload_book.specs.PlainBook.{PlainBook, tenant_book, with_tenant_book}
use Rattle.upload_book.specs.Refusal.{first_that_holds}
use Rattle.upload_book.specs.snapshot.Restore.{CanBePutBack, IsRestorable, book_after_piece, book_with, charged_with, next_tests, part_with, piece_refusal, restore_refusal, totals_tests, upload_back, with_back}
use Rattle.upload_book.specs.snapshot.Restored.{RestoredUpload}
use Rattle.upload_book.specs.TenantBook.{TenantBook, with_next}
use Rattle.upload_book.specs.Upload.{Upload, head_row_of}
use Rattle.upload_book.proofs.Heads.HeadParts.{IsFollowed, head_part-tenant, leads, leads-part, line_to}
use Rattle.upload_book.proofs.Heads.HeadsNew.{leads-new}
use Rattle.upload_book.proofs.Lawful.FirstRefusal.{test-passed}
use Rattle.upload_book.proofs.Restoring.LawfulBack.{IsBack, IsBack-from_none, IsLawful-next, IsLawful-totals, IsLawful-upload}
use Rattle.upload_book.proofs.Restoring.NextSteps.{after-none, after-refused}

-- a piece that is not refused changes what it says,
pub head-none : (b : PlainBook) (r : Restored) (now : ℕ) → piece_refusal b r ≡ None → head_change b (Restore r) now ≡ head_of_piece b r
head-none b r now none = rw none refl

-- and one that is refused changes nothing
head-refused : (b : PlainBook) (r : Restored) (now : ℕ) (why : Refusal) → piece_refusal b r ≡ Some why → head_change b (Restore r) now ≡ None
head-refused b r now why is = rw is refl

-- the book with an upload that is put back under the next id
pub with-upload : (b : PlainBook) (t : ℕ) (r : RestoredUpload) (back : IsBack b.settings.numbers b.charged (tenant_book b t) r)
    → book_with b (piece.Upload t r) ≡ with_tenant_book b t (with_back (tenant_book b t) r.id (upload_back r back.sent))
with-upload b t r back = ap (λ (found : Option (List (ℕ × List ℕ))). with_tenant_book b t (part_with (tenant_book b t) r found)) back.is

-- it is a new upload, so its row is a new one
followed-upload : (b : PlainBook) (t : ℕ) (r : RestoredUpload) → IsLawful b → (t < length b.tenants) × IsRestorable r → restore_refusal b.settings.numbers b.charged (tenant_book b t) r ≡ None
    → IsFollowed b (book_with b (piece.Upload t r)) (head_of_piece b (piece.Upload t r))
followed-upload b t r lawful asked none =
    subst (λ (found : Option (List (ℕ × List ℕ))). IsFollowed b (with_tenant_book b t (part_with part r found)) (put_back t r found)) (sym back.is) (row, tt)
  where
    part : TenantBook
    part = tenant_book b t

    back : IsBack b.settings.numbers b.charged (tenant_book b t) r
    back = IsBack-from_none b.settings.numbers b.charged (tenant_book b t) r none

    u : Upload
    u = upload_back r back.sent

    with_it : ℕ → PlainBook
    with_it id = with_tenant_book b t (with_back (tenant_book b t) id u)

    later : IsLawful (with_it (tenant_book b t).next)
    later = subst (λ (id : ℕ). IsLawful (with_it id)) (sym back.next) (subst IsLawful (with-upload b t r back) (IsLawful-upload b t r lawful asked.0 asked.1 none))

    row : LeadsTo b (line_to (with_it r.id) (Put (record { tenant = t; id = r.id }) (head_row_of u))) (with_it r.id)
    row = subst (λ (id : ℕ). LeadsTo b (line_to (with_it id) (Put (record { tenant = t; id = id }) (head_row_of u))) (with_it id)) back.next (leads-new b t u later)

-- a next id changes no row
followed-next : (b : PlainBook) (t next : ℕ) → IsLawful b → t < length b.tenants → first_that_holds (next_tests b.settings.numbers (tenant_book b t) next) ≡ None
    → IsFollowed b (book_with b (piece.Next t next)) (head_of_piece b (piece.Next t next))
followed-next b t next lawful within none =
    let more : (tenant_book b t).next ≤ next = ltb-false next (tenant_book b t).next (test-passed (ltb next (tenant_book b t).next) _ _ none).0 in (
      leads-part b t (with_next (tenant_book b t) next) (Next (record { tenant = t; id = next })) (IsLawful-next b t next lawful within none)
          (ap (λ (part : HeadPart). set (heads_of b).tenants t (with_next part next)) (head_part-tenant b t))
          (subst (λ (part : HeadPart). part.next ≤ next) (sym (head_part-tenant b t)) more),
      tt,
    )

-- totals that are put back change the accounts alone, and none falls
followed-totals : (b : PlainBook) (released : ℕ) → IsLawful b → first_that_holds (totals_tests b released) ≡ None
    → IsFollowed b (book_with b (piece.Totals released)) (head_of_piece b (piece.Totals released))
followed-totals b released lawful none =
    let more : b.released ≤ released = ltb-false released b.released (test-passed (ltb released b.released) _ _ none).0 in
    (leads b b.tenants (charged_with b released) released Totals (IsLawful-totals b released lawful none) (omega (arith, more)) more refl tt, tt)

followed-with : (b : PlainBook) (r : Restored) → IsLawful b → CanBePutBack (length b.tenants) r → piece_refusal b r ≡ None → IsFollowed b (book_with b r) (head_of_piece b r)
followed-with b (piece.Upload t r) lawful asked none = followed-upload b t r lawful asked none
followed-with b (piece.Next t next) lawful asked none = followed-next b t next lawful asked none
followed-with b (piece.Totals released) lawful asked none = followed-totals b released lawful none

pub heads-restore : (b : PlainBook) (r : Restored) (now : ℕ) → IsLawful b → CanBePutBack (length b.tenants) r → IsFollowed b (book_after_change b (Restore r) now) (head_change b (Restore r) now)
heads-restore b r now lawful asked = by (piece_refusal b r) refl where
  by : (why : Option Refusal) → piece_refusal b r ≡ why → IsFollowed b (book_after_piece b r) (head_change b (Restore r) now)
  by None none =
      subst (λ (after : PlainBook). IsFollowed b after (head_change b (Restore r) now)) (sym (after-none b r none))
      (subst (IsFollowed b (book_with b r)) (sym (head-none b r now none)) (followed-with b r lawful asked none))
  by (Some why) refused =
      subst (λ (after : PlainBook). IsFollowed b after (head_change b (Restore r) now)) (sym (after-refused b r why refused))
      (subst (IsFollowed b b) (sym (head-refused b r now why refused)) (tt, refl))
