-- A sweep where the first upload that expires has not expired.
use Rattle.std.proofs.Common.{◌≡◌, ℕ, ◌+◌, ◌-◌, ◌<◌, true, false, not, List, [], ◌∷◌, length, map, get_or, slice_get, Option, Some, None, IfSome, refl, ap, ap₂, ◌∙◌, arith}
use Rattle.std.specs.List.{All, sum_by}
use Rattle.std.specs.Option.{option_and_then}
use Rattle.std.proofs.lemmas.Bool.Decides.{nat_tests}
use Rattle.std.proofs.lemmas.List.Elements.{All-contains, All-cons, All-from_get_or, All-head, All-tail}
use Rattle.std.proofs.lemmas.List.Sums.{sum_by-cons}
use Rattle.upload_book.specs.Charge.{charge_in}
use Rattle.upload_book.specs.declared.expiry_list.Expiring.{Expiring}
use Rattle.upload_book.specs.Expiries.{AreExpiries}
use Rattle.upload_book.specs.Expiry.{has_expired}
use Rattle.upload_book.specs.ExpiryList.{comes_before, IsAscending}
use Rattle.upload_book.specs.Lawful.{IsLawful}
use Rattle.upload_book.specs.PlainBook.{PlainBook, tenant_book}
use Rattle.upload_book.specs.Sweep.{part_after_sweep, EndsNone}
use Rattle.upload_book.specs.TenantBook.{TenantBook, Entry, opening_part}
use Rattle.upload_book.specs.Upload.{Upload}
use Rattle.upload_book.proofs.Steps.BookLemmas.{book_with}
use Rattle.upload_book.proofs.Lawful.Entries.{filter_all, kept_in-place}
use Rattle.upload_book.proofs.Expiries.ExpiryLemmas.{before-at, pairs-head}

-- it expires after the moment
abbrev pub IsFresh : ℕ → Expiring → Type 0
IsFresh now x = now < x.at

-- where the first has not expired, none is
fresh-first : (now : ℕ) (list : List Expiring) → IsAscending list → IfSome (slice_get list 0) (IsFresh now) → All (IsFresh now) list
fresh-first now [] ascending first = λ k d within. absurd (omega arith)
fresh-first now (x ∷ list) ascending first =
    All-cons (IsFresh now) x list first (λ k d within. omega (arith, first, before-at x (get_or list k d) (pairs-head (λ x y. comes_before x y ≡ true) x list ascending k d within)))

-- an end that is later has not expired
not_expired : (now : ℕ) (expires : Option ℕ) → ((at : ℕ) → expires ≡ Some at → now < at) → has_expired now expires ≡ false
not_expired now None later = refl
not_expired now (Some at) later = let after = later at refl in grind (arith, nat_tests)

-- a tenant's part stays
sweep-stays : (b : PlainBook) (list : List Expiring) (now t : ℕ) → IsLawful b → AreExpiries b list → All (IsFresh now) list → t < length b.tenants → part_after_sweep now (tenant_book b t) ≡ tenant_book b t
sweep-stays b list now t lawful are fresh within =
    let sound = lawful.tenants t (opening_part 0) within in
    let passes : All (λ (e : Entry Upload). not (has_expired now e.kept.expires) ≡ true) (tenant_book b t).uploads = λ k d inside.
    ap not (not_expired now (get_or (tenant_book b t).uploads k d).kept.expires (λ at is.
    All-contains (IsFresh now) list (record { at = at; name = record { tenant = t; id = (get_or (tenant_book b t).uploads k d).id } }) fresh
    ((are.each (record { at = at; name = record { tenant = t; id = (get_or (tenant_book b t).uploads k d).id } })).1
    (ap (λ found. option_and_then (λ (u : Upload). u.expires) found) (kept_in-place (tenant_book b t).uploads (get_or (tenant_book b t).uploads k d).id k d sound.ascending inside refl) ∙ is)))) in
    ap (λ uploads. record (tenant_book b t) { uploads = uploads }) (filter_all (λ (e : Entry Upload). not (has_expired now e.kept.expires)) (tenant_book b t).uploads passes)

-- parts that stay are the same together,
parts-same : (f : TenantBook → TenantBook) (parts : List TenantBook) → All (λ part. f part ≡ part) parts → map {A = TenantBook} {B = TenantBook} f parts ≡ parts
parts-same f [] stay = refl
parts-same f (part ∷ parts) stay =
    ap₂ (λ (part : TenantBook) (parts : List TenantBook). part ∷ parts) (All-head (λ part. f part ≡ part) part parts stay) (parts-same f parts (All-tail (λ part. f part ≡ part) part parts stay))

-- and nothing is less of them
nothing-less : (m : TenantBook → ℕ) (f : TenantBook → TenantBook) (parts : List TenantBook) → All (λ part. f part ≡ part) parts → sum_by (λ part. m part - m (f part)) parts ≡ 0
nothing-less m f [] stay = refl
nothing-less m f (part ∷ parts) stay =
    let rest = nothing-less m f parts (All-tail (λ part. f part ≡ part) part parts stay) in
    sum_by-cons (λ part. m part - m (f part)) part parts ∙ omega (arith, rest, ap m (All-head (λ part. f part ≡ part) part parts stay))

-- so a sweep ends nothing
pub EndsNone-first : (b : PlainBook) (list : List Expiring) (now : ℕ) → IsLawful b → AreExpiries b list → IfSome (slice_get list 0) (IsFresh now) → EndsNone b now
EndsNone-first b list now lawful are first =
    let fresh = fresh-first now list are.ascending first in
    let stay : All (λ part. part_after_sweep now part ≡ part) b.tenants =
    All-from_get_or (λ part. part_after_sweep now part ≡ part) b.tenants (opening_part 0) (λ t within. sweep-stays b list now t lawful are fresh within) in
    let back = nothing-less (charge_in b.settings.numbers) (part_after_sweep now) b.tenants stay in
    record {
      uploads = nothing-less (λ (part : TenantBook). length part.uploads) (part_after_sweep now) b.tenants stay;
      back = back;
      book = ap₂ (λ tenants released. book_with b tenants b.charged released) (parts-same (part_after_sweep now) b.tenants stay) (ap (λ n. b.released + n) back ∙ omega arith);
    }
