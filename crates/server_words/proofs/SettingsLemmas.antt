-- Settings that may follow others, and the tenants at their places.
use Rattle.std.proofs.Common.{◌≡◌, ◌≢◌, ℕ, zero, suc, ◌+◌, ◌<◌, ◌≤◌, Bool, true, false, not, cond, List, [], ◌∷◌, ◌++◌, drop, length, map, Option, Some, None, refl, sym, ap, ap₂, ◌∙◌, inl, inr, true≢false, arith, add-one, ◌==◌, ◌⊎◌}
use Rattle.std.specs.Prelude.{IfNone, OnSome, bytes_eq, option_map, slice_get}
use Rattle.std.proofs.lemmas.Bool.{eq-eqb}
use Rattle.std.proofs.lemmas.Bool.Decides.{eqb_tells}
use Rattle.std.proofs.lemmas.List.{drop_all}
use Rattle.std.proofs.lemmas.Slice.Eq.{bytes_eq-Decides}
use mathlib.Core.List.{IsPrefix}
use Rattle.upload_book.specs.Settings.{AreSound, Settings}
use Rattle.upload_book.specs.declared.settings.TenantQuota.{TenantQuota}
use Rattle.upload_book.proofs.Lawful.SettingsLemmas.{tenants-within}
use Rattle.server_words.specs.MadeAgain.{MakesTheSame}
use Rattle.server_words.specs.MayFollow.{MayFollow, SettingsDifference, difference_in, finished_difference, finished_lifetimes, first_difference, lifetimes, names_of, tenant_difference, tenants_at}
use Rattle.server_words.specs.Sentences.{shown}
use Rattle.server_words.specs.declared.difference.Difference.{Difference}
use Rattle.server_words.proofs.MadeAgainLemmas.{makes-the-same}

-- a place of a tenant is a small number
pub few_tenants : (s : Settings) (place : ℕ) → AreSound s → place < length s.tenants → place < 256
few_tenants s place sound within = omega (arith, tenants-within s sound)

abbrev names : List TenantQuota → List (List ℕ)
names tenants = map {A = TenantQuota} {B = List ℕ} (λ t. t.name) tenants

-- a tenant of this name stands at a place
at_place : (xs : List TenantQuota) (place : ℕ) (name : List ℕ) → slice_get (names xs) place ≡ Some name → (t : TenantQuota) × (t.name ≡ name) × (drop place xs ≡ t ∷ drop (suc place) xs)
at_place [] place name h = cc
at_place (t ∷ xs) zero name h = (t, cc, refl)
at_place (t ∷ xs) (suc place) name h = at_place xs place name h

not_same : (a b : List ℕ) → ¬ (a ≡ b) → bytes_eq a b ≡ false
not_same a b h = go (bytes_eq a b) refl
  where
    go : (test : Bool) → bytes_eq a b ≡ test → test ≡ false
    go false is = refl
    go true is = absurd (h ((bytes_eq-Decides a b).0 is))

-- what a test of two names tells
pub not_equal : (a b : List ℕ) → true ≡ not (bytes_eq a b) → ¬ (a ≡ b)
not_equal a b h same = true≢false (h ∙ ap not ((bytes_eq-Decides a b).1 same))

pub equal : (a b : List ℕ) → false ≡ not (bytes_eq a b) → a ≡ b
equal a b h = go (bytes_eq a b) refl
  where
    go : (test : Bool) → bytes_eq a b ≡ test → a ≡ b
    go true is = (bytes_eq-Decides a b).0 is
    go false is = absurd (true≢false (sym (h ∙ ap not is)))

-- two tenants of one name differ in nothing here
same_first : (place : ℕ) (t u : TenantQuota) (old new : List TenantQuota) → t.name ≡ u.name → tenant_difference place (t ∷ old) (u ∷ new) ≡ tenant_difference (place + 1) old new
same_first place t u old new h =
    ap (λ (b : Bool). cond b (tenant_difference (place + 1) old new) (Some (tenants_at place (shown t.name) (Some (shown u.name))))) ((bytes_eq-Decides t.name u.name).1 h)

other_first : (place : ℕ) (t u : TenantQuota) (old new : List TenantQuota) → ¬ (t.name ≡ u.name) → tenant_difference place (t ∷ old) (u ∷ new) ≡ Some (tenants_at place (shown t.name) (Some (shown u.name)))
other_first place t u old new h =
    ap (λ (b : Bool). cond b (tenant_difference (place + 1) old new) (Some (tenants_at place (shown t.name) (Some (shown u.name))))) (not_same t.name u.name h)

-- what differs from a place on, where the tenants there have one name
pub same_place : (place : ℕ) (old new : List TenantQuota) (name : List ℕ) → slice_get (names old) place ≡ Some name → slice_get (names new) place ≡ Some name
    → tenant_difference (place + 1) (drop place old) (drop place new) ≡ tenant_difference (place + 1 + 1) (drop (place + 1) old) (drop (place + 1) new)
same_place place old new name was is =
    let a = at_place old place name was in
    let b = at_place new place name is in
    rw (add-one place) (ap₂ (tenant_difference (suc place)) a.2 b.2 ∙ same_first (suc place) a.0 b.0 (drop (suc place) old) (drop (suc place) new) (a.1 ∙ sym b.1))

-- where they have two
pub other_place : (place : ℕ) (old new : List TenantQuota) (name other : List ℕ) → slice_get (names old) place ≡ Some name → slice_get (names new) place ≡ Some other → ¬ (name ≡ other)
    → tenant_difference (place + 1) (drop place old) (drop place new) ≡ Some (tenants_at (place + 1) (shown name) (Some (shown other)))
other_place place old new name other was is h =
    let a = at_place old place name was in
    let b = at_place new place other is in
    ap₂ (tenant_difference (place + 1)) a.2 b.2
    ∙ other_first (place + 1) a.0 b.0 (drop (suc place) old) (drop (suc place) new) (λ same. h (sym a.1 ∙ same ∙ b.1))
    ∙ ap₂ (λ (x y : List ℕ). Some (tenants_at (place + 1) (shown x) (Some (shown y)))) a.1 b.1

-- where the new settings have none
pub no_place : (place : ℕ) (old new : List TenantQuota) (name : List ℕ) → slice_get (names old) place ≡ Some name → length new ≤ place
    → tenant_difference (place + 1) (drop place old) (drop place new) ≡ Some (tenants_at (place + 1) (shown name) None)
no_place place old new name was past =
    let a = at_place old place name was in
    ap₂ (tenant_difference (place + 1)) a.2 (drop_all place new past) ∙ ap (λ (x : List ℕ). Some (tenants_at (place + 1) (shown x) None)) a.1

-- past the last tenant of the old settings nothing differs
pub all_places : (place : ℕ) (old new : List TenantQuota) → length old ≤ place → tenant_difference (place + 1) (drop place old) (drop place new) ≡ None
all_places place old new past = ap (λ (xs : List TenantQuota). tenant_difference (place + 1) xs (drop place new)) (drop_all place old past)

prefix_none : (place : ℕ) (old new : List TenantQuota) → tenant_difference place old new ≡ None → IsPrefix (names old) (names new)
prefix_none place [] new h = (names new, refl)
prefix_none place (t ∷ old) [] h = cc
prefix_none place (t ∷ old) (u ∷ new) h =
    by place t u old new h (λ rest. prefix_none (place + 1) old new rest) (bytes_eq t.name u.name) refl
  where
    by : (place : ℕ) (t u : TenantQuota) (old new : List TenantQuota) → tenant_difference place (t ∷ old) (u ∷ new) ≡ None → (tenant_difference (place + 1) old new ≡ None → IsPrefix (names old) (names new))
        → (b : Bool) → bytes_eq t.name u.name ≡ b → IsPrefix (names (t ∷ old)) (names (u ∷ new))
    by place t u old new h later true is =
        let same = (bytes_eq-Decides t.name u.name).0 is in
        let rest = later (sym (same_first place t u old new same) ∙ h) in
        (rest.0, ap₂ (λ (x : List ℕ) (xs : List (List ℕ)). x ∷ xs) same rest.1)
    by place t u old new h later false is =
        let apart : ¬ (t.name ≡ u.name) = λ same. absurd (true≢false (sym ((bytes_eq-Decides t.name u.name).1 same) ∙ is)) in
        let some = sym (other_first place t u old new apart) ∙ h in
        cc

prefix_some : (place : ℕ) (old new : List TenantQuota) (d : SettingsDifference) → tenant_difference place old new ≡ Some d → IsPrefix (names old) (names new) → ⊥
prefix_some place [] new d h p = cc
prefix_some place (t ∷ old) [] d h p = let none = p.1 in cc
prefix_some place (t ∷ old) (u ∷ new) d h p =
    let both = p.1 in
    let same : t.name ≡ u.name = cc in
    let rest : names old ++ p.0 ≡ names new = cc in
    prefix_some (place + 1) old new d (sym (same_first place t u old new same) ∙ h) (p.0, rest)

-- where no tenants differ, those of the old settings have the first places of the new ones
pub prefix-same : (old new : Settings) → None ≡ tenant_difference 1 old.tenants new.tenants → IsPrefix (names_of old) (names_of new)
prefix-same old new h = prefix_none 1 old.tenants new.tenants (sym h)

-- and where some differ, they don't
pub prefix-differs : (old new : Settings) (d : SettingsDifference) → Some d ≡ tenant_difference 1 old.tenants new.tenants → ¬ (IsPrefix (names_of old) (names_of new))
prefix-differs old new d h = prefix_some 1 old.tenants new.tenants d (sym h)

-- the two kinds of numbers
abbrev IsSameOrNot : ℕ → ℕ → Type 0
IsSameOrNot a b = (((a == b) ≡ true) × (a ≡ b)) ⊎ (((a == b) ≡ false) × (a ≢ b))

-- where the lifetimes of finished uploads and the tenants don't differ, they are the same
finished-none : (old new : Settings) → finished_difference old new ≡ None → (new.numbers.finished_lifetime ≡ old.numbers.finished_lifetime) × IsPrefix (names_of old) (names_of new)
finished-none old new h = go (eqb_tells old.numbers.finished_lifetime new.numbers.finished_lifetime)
  where
    go : IsSameOrNot old.numbers.finished_lifetime new.numbers.finished_lifetime → (new.numbers.finished_lifetime ≡ old.numbers.finished_lifetime) × IsPrefix (names_of old) (names_of new)
    go (inl same) = (sym same.1, prefix_none 1 old.tenants new.tenants (rw same.0 at h))
    go (inr other) = let some = rw other.0 at h in cc

-- and where one of them does, they are not
finished-some : (old new : Settings) (d : SettingsDifference) → finished_difference old new ≡ Some d → new.numbers.finished_lifetime ≡ old.numbers.finished_lifetime → IsPrefix (names_of old) (names_of new) → ⊥
finished-some old new d h finished tenants = go (eqb_tells old.numbers.finished_lifetime new.numbers.finished_lifetime)
  where
    go : IsSameOrNot old.numbers.finished_lifetime new.numbers.finished_lifetime → ⊥
    go (inl same) = prefix_some 1 old.tenants new.tenants d (rw same.0 at h) tenants
    go (inr other) = other.1 (sym finished)

-- settings that differ in nothing here may follow
pub follows-none : (old new : Settings) → first_difference old new ≡ None → MayFollow old new
follows-none old new h = go (eqb_tells old.numbers.lifetime new.numbers.lifetime)
  where
    go : IsSameOrNot old.numbers.lifetime new.numbers.lifetime → MayFollow old new
    go (inl same) =
        let both = finished-none old new (rw same.0 at h) in
        record { lifetime = sym same.1; finished = both.0; tenants = both.1 }
    go (inr other) = let some = rw other.0 at h in cc

-- and those that do may not
pub differs-some : (old new : Settings) (d : SettingsDifference) → first_difference old new ≡ Some d → ¬ (MayFollow old new)
differs-some old new d h follows = go (eqb_tells old.numbers.lifetime new.numbers.lifetime)
  where
    go : IsSameOrNot old.numbers.lifetime new.numbers.lifetime → ⊥
    go (inl same) = finished-some old new d (rw same.0 at h) follows.finished follows.tenants
    go (inr other) = other.1 (sym follows.lifetime)

-- with one lifetime, what differs is that of finished uploads, or the tenants
pub one-lifetime : (old new : Settings) → old.numbers.lifetime ≡ new.numbers.lifetime → first_difference old new ≡ finished_difference old new
one-lifetime old new same =
    ap (λ (b : Bool). cond b (finished_difference old new) (Some (lifetimes old.numbers.lifetime new.numbers.lifetime))) (eq-eqb old.numbers.lifetime new.numbers.lifetime same)

-- what the first difference says, where there is one or none
module _ (old new : Settings) where
  pub IfNone-follows : (d : Option Difference) → option_map difference_in d ≡ first_difference old new → IfNone d (MayFollow old new)
  IfNone-follows None is = follows-none old new (sym is)
  IfNone-follows (Some difference) is = tt

  pub IfNone-again : (d : Option Difference) → option_map difference_in d ≡ first_difference old new → IfNone d (MakesTheSame old new)
  IfNone-again None is = makes-the-same old new (follows-none old new (sym is))
  IfNone-again (Some difference) is = tt

  pub OnSome-differs : (d : Option Difference) → option_map difference_in d ≡ first_difference old new → OnSome d (¬ (MayFollow old new))
  OnSome-differs None is = tt
  OnSome-differs (Some difference) is = differs-some old new (difference_in difference) (sym is)
