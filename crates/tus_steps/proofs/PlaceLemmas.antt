-- The place of a tenant in the settings, and its part of the book before and after another part changes.
use Rattle.std.proofs.Common.{◌≡◌, ◌≢◌, ℕ, zero, suc, ◌+◌, ◌<◌, Bool, true, false, List, [], ◌∷◌, length, map, get_or, Option, Some, None, inl, inr, refl, sym, ap, ◌∙◌, subst, arith}
use Rattle.std.specs.List.{position_from, slice_get}
use Rattle.std.specs.Option.{option_map}
use Rattle.std.specs.Str.{bytes_eq}
use Rattle.std.proofs.lemmas.Bool.{cases_Bool, false≢true}
use Rattle.std.proofs.lemmas.Iterator.Adapters.{position_from-zero}
use Rattle.std.proofs.lemmas.List.{get_or-set_other, get_or-set_same}
use Rattle.std.proofs.lemmas.Option.{slice_get_within}
use Rattle.std.proofs.lemmas.Slice.Eq.{bytes_eq-Decides}
use Rattle.upload_book.specs.declared.settings.TenantQuota.{TenantQuota}
use Rattle.upload_book.specs.PlainBook.{PlainBook, tenant_book, with_tenant_book}
use Rattle.upload_book.specs.Settings.{Settings, tenant_place}
use Rattle.upload_book.specs.Sweep.{book_after_sweep, part_after_sweep}
use Rattle.upload_book.specs.TenantBook.{TenantBook, opening_part}
use Rattle.tus_steps.specs.History.{part_of}
use Rattle.tus_steps.specs.Isolation.{HasEachPart}

-- a place that was found, from the index that the first element has, and the element there
record IsFirst {A : Type 0} (test : A → Bool) (xs : List A) (start place : ℕ) : Type 0 where
  at : ℕ
  element : A
  passes : test element ≡ true
  there : slice_get xs at ≡ Some element
  is : place ≡ start + at

same_place : (i k : ℕ) → Some i ≡ Some k → k ≡ i + 0
same_place i k is = let same : i ≡ k = cc in omega arith

found-first : {A : Type 0} (test : A → Bool) (xs : List A) (i k : ℕ) → position_from test i xs ≡ Some k → IsFirst test xs i k
found-first test [] i k is = absurd cc
found-first test (x ∷ xs) i k is = elim (cases_Bool (test x)) [
  | inl passes ↦ record { at = 0; element = x; passes = passes; there = refl; is = same_place i k (rw passes at is) }
  | inr other ↦
      let rest = found-first test xs (i + 1) k (rw other at is) in
      record { at = suc rest.at; element = rest.element; passes = rest.passes; there = rest.there; is = omega (arith, rest.is) }
]

-- the tenant at the place of a name
pub record IsAt (s : Settings) (name : List ℕ) (place : ℕ) : Type 0 where
  pub tenant : TenantQuota
  pub there : slice_get s.tenants place ≡ Some tenant
  pub named : tenant.name ≡ name

pub place-at : (s : Settings) (name : List ℕ) (place : ℕ) → tenant_place s name ≡ Some place → IsAt s name place
place-at s name place is =
    let test = λ (t : TenantQuota). bytes_eq t.name name in
    let first = found-first test s.tenants 0 place (sym (position_from-zero test s.tenants) ∙ is) in
    let same : first.at ≡ place = omega (arith, first.is) in
    record {
      tenant = first.element;
      there = subst (λ (k : ℕ). slice_get s.tenants k ≡ Some first.element) same first.there;
      named = (bytes_eq-Decides first.element.name name).0 first.passes;
    }

-- the place is one of the parts
pub place-within : (b : PlainBook) (name : List ℕ) (place : ℕ) → HasEachPart b → tenant_place b.settings name ≡ Some place → place < length b.tenants
place-within b name place each is =
    let there = place-at b.settings name place is in
    omega (arith, slice_get_within b.settings.tenants place there.tenant there.there, each)

one-name : (a b : TenantQuota) (name other : List ℕ) → Some a ≡ Some b → a.name ≡ name → b.name ≡ other → other ≡ name
one-name a b name other same is also = let one : a ≡ b = cc in sym also ∙ ap (λ (t : TenantQuota). t.name) (sym one) ∙ is

-- two names have two places
pub places-differ : (s : Settings) (name other : List ℕ) (place place' : ℕ) → tenant_place s name ≡ Some place → tenant_place s other ≡ Some place' → bytes_eq other name ≡ false → place ≢ place'
places-differ s name other place place' is also differ same =
    let here = place-at s name place is in
    let there = place-at s other place' also in
    let at_one = sym here.there ∙ ap (slice_get s.tenants) same ∙ there.there in
    false≢true (sym differ ∙ (bytes_eq-Decides other name).1 (one-name here.tenant there.tenant name other at_one here.named there.named))

-- the part that was changed
pub part_of-own : (b : PlainBook) (tenant : List ℕ) (place : ℕ) (part : TenantBook) → HasEachPart b → tenant_place b.settings tenant ≡ Some place → part_of (with_tenant_book b place part) tenant ≡ Some part
part_of-own b tenant place part each is =
    rw is (ap Some (get_or-set_same b.tenants place part (opening_part 0) (place-within b tenant place each is)))

other-part : (b : PlainBook) (changed : ℕ) (part : TenantBook) (place : Option ℕ) → ((t : ℕ) → place ≡ Some t → t ≢ changed) → option_map (tenant_book (with_tenant_book b changed part)) place ≡ option_map (tenant_book b) place
other-part b changed part None apart = refl
other-part b changed part (Some t) apart = ap Some (get_or-set_other b.tenants changed t part (opening_part 0) (apart t refl))

-- and any other one, which stays
pub part_of-other : (b : PlainBook) (tenant name : List ℕ) (changed : ℕ) (part : TenantBook) → tenant_place b.settings name ≡ Some changed → bytes_eq name tenant ≡ false → part_of (with_tenant_book b changed part) tenant ≡ part_of b tenant
part_of-other b tenant name changed part is differ =
    other-part b changed part (tenant_place b.settings tenant) (λ t there. places-differ b.settings tenant name t changed there is differ)

get_or-mapped : {A B : Type 0} (f : A → B) (xs : List A) (i : ℕ) (d : A) (e : B) → e ≡ f d → get_or (map f xs) i e ≡ f (get_or xs i d)
get_or-mapped f [] i d e is = is
get_or-mapped f (x ∷ xs) zero d e is = refl
get_or-mapped f (x ∷ xs) (suc i) d e is = get_or-mapped f xs i d e is

mapped-part : (b : PlainBook) (now : ℕ) (place : Option ℕ) → option_map (tenant_book (book_after_sweep b now)) place ≡ option_map (part_after_sweep now) (option_map (tenant_book b) place)
mapped-part b now None = refl
mapped-part b now (Some t) = ap Some (get_or-mapped (part_after_sweep now) b.tenants t (opening_part 0) (opening_part 0) refl)

-- a part after a sweep
pub part_of-swept : (tenant : List ℕ) (b : PlainBook) (now : ℕ) → part_of (book_after_sweep b now) tenant ≡ option_map (part_after_sweep now) (part_of b tenant)
part_of-swept tenant b now = mapped-part b now (tenant_place b.settings tenant)
