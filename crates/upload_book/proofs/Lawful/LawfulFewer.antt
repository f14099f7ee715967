-- A DELETE and a sweep leave a lawful book lawful: fewer uploads cost no more, and what is left is as it should be.
use Rattle.std.proofs.Common.{◌≡◌, ◌⊎◌, ℕ, ◌+◌, ◌-◌, ◌<◌, ◌≤◌, Bool, eqb, not, List, [], ◌∷◌, map, length, get_or, None, refl, inl, inr, ap, ◌∙◌, arith}
use Rattle.std.specs.List.{All, filter, sum_by}
use Rattle.std.proofs.lemmas.List.Elements.{All-filter, All-map, All-weaker}
use Rattle.std.proofs.lemmas.List.Sums.{count_by-le-length, length-filter, sum_by-cons}
use Rattle.upload_book.specs.Charge.{charge_in}
use Rattle.upload_book.specs.declared.settings.Numbers.{Numbers}
use Rattle.upload_book.specs.Expiry.{has_expired}
use Rattle.upload_book.specs.Lawful.{IsLawful, IsTenantOf, IsUploadOf, IsGivenIn, IsSegmentOf}
use Rattle.upload_book.specs.PlainBook.{PlainBook, with_tenant_book, tenant_book}
use Rattle.upload_book.specs.Sweep.{part_after_sweep, book_after_sweep}
use Rattle.upload_book.specs.TenantBook.{Entry, TenantBook, kept_in}
use Rattle.upload_book.specs.Terminate.{without, given_back}
use Rattle.upload_book.specs.Upload.{Upload}
use Rattle.upload_book.proofs.Lawful.Entries.{kept_in-filter, ascending-filter}
use Rattle.upload_book.proofs.Lawful.LawfulSteps.{IsUploadOf-beside, IsLawful-with_tenant_book-less}
use Rattle.upload_book.proofs.Lawful.SharedLemmas.{ShareParts-filter}
use Rattle.upload_book.proofs.Charge.PriceLemmas.{charge-filter}

-- a part with those uploads that pass a test
abbrev pub filtered : (Entry Upload → Bool) → TenantBook → TenantBook
filtered p part = record part { uploads = filter p part.uploads }

-- a part of a final upload that is left stands for its segment, and one that is gone puts no condition
segment_left : (part : TenantBook) (p : Entry Upload → Bool) (id : ℕ) (segment : List ℕ) → (kept_in (filter p part.uploads) id ≡ None) ⊎ (kept_in (filter p part.uploads) id ≡ kept_in part.uploads id)
    → IsSegmentOf part id segment → IsSegmentOf (filtered p part) id segment
segment_left part p id segment (inl gone) is = rw gone tt
segment_left part p id segment (inr same) is = rw same is

-- what is left of a tenant's uploads is as it should be
pub IsTenantOf-filter : (n : Numbers) (p : Entry Upload → Bool) (part : TenantBook) → IsTenantOf n part → IsTenantOf n (filtered p part)
IsTenantOf-filter n p part sound =
    let later : TenantBook = filtered p part in
    let beside : (e : Entry Upload) → IsUploadOf n part e.kept → IsUploadOf n later e.kept = λ e here.
    IsUploadOf-beside n part later e.kept (λ id given. given) (λ id segment given is. segment_left part p id segment (kept_in-filter p part.uploads id sound.ascending) is) here in
    record {
      first = sound.first;
      last = sound.last;
      few = omega (arith, sound.few, length-filter p part.uploads, count_by-le-length p part.uploads);
      ascending = ascending-filter p part.uploads sound.ascending;
      given = All-filter p (λ (e : Entry Upload). IsGivenIn later e.id) part.uploads sound.given;
      uploads = All-filter p (λ (e : Entry Upload). IsUploadOf n later e.kept) part.uploads (All-weaker (λ (e : Entry Upload). IsUploadOf n part e.kept) (λ (e : Entry Upload). IsUploadOf n later e.kept) beside part.uploads sound.uploads);
      later = All-filter p (λ (e : Entry Upload). All (λ p. p < e.id) e.kept.parts) part.uploads sound.later;
      shared = ShareParts-filter p part.uploads sound.shared;
    }

-- a DELETE leaves the tenant's part as it should be
pub IsTenantOf-terminate : (n : Numbers) (part : TenantBook) (id : ℕ) → IsTenantOf n part → IsTenantOf n (without part id)
IsTenantOf-terminate n part id sound = IsTenantOf-filter n (λ e. not (eqb e.id id)) part sound

-- so does a sweep
pub IsTenantOf-sweep : (n : Numbers) (part : TenantBook) (now : ℕ) → IsTenantOf n part → IsTenantOf n (part_after_sweep now part)
IsTenantOf-sweep n part now sound = IsTenantOf-filter n (λ e. not (has_expired now e.kept.expires)) part sound

-- after a DELETE the tenant pays no more
pub charge-terminate : (n : Numbers) (part : TenantBook) (id : ℕ) → charge_in n (without part id) ≤ charge_in n part
charge-terminate n part id = charge-filter n (λ e. not (eqb e.id id)) part

-- nor after a sweep
pub charge-sweep : (n : Numbers) (part : TenantBook) (now : ℕ) → charge_in n (part_after_sweep now part) ≤ charge_in n part
charge-sweep n part now = charge-filter n (λ e. not (has_expired now e.kept.expires)) part

-- a DELETE leaves a lawful book lawful
pub IsLawful-without : (b : PlainBook) (t id : ℕ) → IsLawful b → t < length b.tenants → IsLawful (with_tenant_book b t (without (tenant_book b t) id))
IsLawful-without b t id lawful within =
    let part : TenantBook = tenant_book b t in
    let sound : IsTenantOf b.settings.numbers (tenant_book b t) = lawful.tenants t _ within in
    IsLawful-with_tenant_book-less b t (without part id) lawful within refl (IsTenantOf-terminate b.settings.numbers part id sound) (charge-terminate b.settings.numbers part id)

-- what parts have after a step that leaves each no more, and what it takes from them, is what they had
pub total-fewer : (m : TenantBook → ℕ) (after : TenantBook → TenantBook) → ((part : TenantBook) → m (after part) ≤ m part) → (parts : List TenantBook)
    → sum_by m (map {A = TenantBook} {B = TenantBook} after parts) + sum_by (λ part. m part - m (after part)) parts ≡ sum_by m parts
total-fewer m after fewer [] = refl
total-fewer m after fewer (part ∷ parts) =
    omega (
      arith,
      sum_by-cons m (after part) (map {A = TenantBook} {B = TenantBook} after parts),
      sum_by-cons (λ part. m part - m (after part)) part parts,
      sum_by-cons m part parts,
      fewer part,
      total-fewer m after fewer parts,
    )

-- what all parts pay after a sweep, and what it gives back, is what they paid
pub swept-total : (n : Numbers) (now : ℕ) (parts : List TenantBook)
    → sum_by (charge_in n) (map {A = TenantBook} {B = TenantBook} (part_after_sweep now) parts) + sum_by (λ part. given_back n part (part_after_sweep now part)) parts ≡ sum_by (charge_in n) parts
swept-total n now parts = total-fewer (charge_in n) (part_after_sweep now) (λ part. charge-sweep n part now) parts

-- how many uploads a part has
abbrev pub count_of : TenantBook → ℕ
count_of part = length part.uploads

-- a sweep leaves no more of them
pub length-sweep : (now : ℕ) (part : TenantBook) → count_of (part_after_sweep now part) ≤ count_of part
length-sweep now part =
    omega (arith, length-filter (λ (e : Entry Upload). not (has_expired now e.kept.expires)) part.uploads, count_by-le-length (λ (e : Entry Upload). not (has_expired now e.kept.expires)) part.uploads)

-- the quotas stay in a sweep
quotas-swept : (now : ℕ) (parts : List TenantBook) → map {A = TenantBook} {B = ℕ} (λ part. part.quota) (map {A = TenantBook} {B = TenantBook} (part_after_sweep now) parts) ≡ map {A = TenantBook} {B = ℕ} (λ part. part.quota) parts
quotas-swept now [] = refl
quotas-swept now (part ∷ parts) = ap (λ rest. part.quota ∷ rest) (quotas-swept now parts)

-- a sweep leaves a lawful book lawful
pub IsLawful-sweep : (b : PlainBook) (now : ℕ) → IsLawful b → IsLawful (book_after_sweep b now)
IsLawful-sweep b now lawful =
    record {
      settings = lawful.settings;
      quotas = quotas-swept now b.tenants ∙ lawful.quotas;
      tenants = All-map (IsTenantOf b.settings.numbers) (part_after_sweep now) b.tenants (λ k d within. IsTenantOf-sweep b.settings.numbers (get_or b.tenants k d) now (lawful.tenants k d within));
      charges = All-map (λ (part : TenantBook). charge_in b.settings.numbers part ≤ part.quota) (part_after_sweep now) b.tenants (λ k d within. omega (arith, charge-sweep b.settings.numbers (get_or b.tenants k d) now, lawful.charges k d within));
      totals = omega (arith, lawful.totals, swept-total b.settings.numbers now b.tenants);
      last = lawful.last;
    }
