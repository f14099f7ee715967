-- Where the upload stands that a request sees.
use Rattle.std.proofs.Common.{◌≡◌, ℕ, ◌<◌, true, false, eqb, get_or, Some, None, Err, sym, ◌∙◌, refl, arith}
use Rattle.std.specs.List.{position}
use Rattle.std.proofs.lemmas.Bool.Decides.{nat_tests}
use Rattle.std.proofs.lemmas.List.{get_or_default}
use Rattle.std.proofs.lemmas.List.Quantifiers.{position-Some}
use Rattle.upload_book.specs.declared.refusal.Refusal.TheVariants.{Gone}
use Rattle.upload_book.specs.Expiry.{has_expired}
use Rattle.upload_book.specs.inside.Kept.{IsVisibleAt}
use Rattle.upload_book.specs.TenantBook.{Entry, visible_in}
use Rattle.upload_book.specs.BlockStore.{no_upload}
use Rattle.upload_book.specs.Stored.{StoredTenant, StoredUpload}
use Rattle.upload_book.proofs.Lawful.Entries.{has_id, visible_in-given}

-- an upload that has not expired is visible at its place
pub IsVisibleAt-found : (part : StoredTenant) (id now place : ℕ) (e : Entry StoredUpload) → 0 < id → id < part.next → position (has_id id) part.uploads ≡ Some place → e ≡ get_or part.uploads place e → has_expired now e.kept.expires ≡ false → IsVisibleAt part id now place
IsVisibleAt-found part id now place e some given is read stays =
    let found = position-Some (has_id id) part.uploads place in
    record {
      there = (found e is).0;
      named = λ d. let named : eqb (get_or part.uploads place d).id id ≡ true = (found d is).1 in grind (arith, nat_tests);
      visible = λ d.
          let same : get_or part.uploads place d ≡ e = get_or_default part.uploads place d e (found e is).0 ∙ sym read in
          visible_in-given (λ u. u.expires) part id now d (Some place) some given is ∙ rw same (rw stays refl);
    }

-- one that has expired is gone
pub visible-expired : (part : StoredTenant) (id now place : ℕ) (e : Entry StoredUpload) → 0 < id → id < part.next → position (has_id id) part.uploads ≡ Some place → e ≡ get_or part.uploads place e → has_expired now e.kept.expires ≡ true → visible_in (λ u. u.expires) part id now ≡ Err Gone
visible-expired part id now place e some given is read over =
    visible_in-given (λ u. u.expires) part id now e (Some place) some given is ∙ rw (← read) (rw over refl)

-- one that has ended is gone
pub visible-ended : (part : StoredTenant) (id now : ℕ) → 0 < id → id < part.next → position (has_id id) part.uploads ≡ None → visible_in (λ u. u.expires) part id now ≡ Err Gone
visible-ended part id now some given is = visible_in-given (λ u. u.expires) part id now no_upload None some given is
