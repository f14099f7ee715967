-- Tests of tenants as they are given, by their names and quotas.
use Rattle.std.proofs.Common.{◌≡◌, ℕ, ◌<◌, ◌≤◌, Bool, true, false, not, ◌||◌, List, [], ◌∷◌, length, get_or, bytes_eq, None, refl, sym, ap, ◌∙◌, arith}
use Rattle.std.specs.Borrow.{Bor}
use Rattle.std.specs.List.{list_all, list_any}
use Rattle.std.proofs.lemmas.Bool.{false≢true}
use Rattle.std.proofs.lemmas.Bool.Decides.{nat_tests}
use Rattle.std.proofs.lemmas.List.Folds.{list_all-map, list_all_at}
use Rattle.tus_text.specs.Tenant.{is_tenant_name}
use Rattle.upload_book.specs.declared.settings.TenantQuota.{TenantQuota}
use Rattle.upload_book.specs.Refusal.{first_that_holds}
use Rattle.upload_book.specs.Settings.{tenants_of, is_outside, tenant_tests, has_name_twice, is_named_again}
use Rattle.upload_book.proofs.Lawful.FirstRefusal.{test-passed}

-- a tenant as it is given
abbrev Given : Type 0
Given = Bor (List ℕ) × ℕ

-- as the settings keep it
abbrev tenant_of_given : Given → TenantQuota
tenant_of_given t = record { name = t.0.now; quota = t.1 }

-- each can be a name
pub all_names_given : (given : List Given) → list_all (λ t. is_tenant_name t.name) (tenants_of given) ≡ list_all (λ t. is_tenant_name t.0.now) given
all_names_given given = list_all-map (λ (t : TenantQuota). is_tenant_name t.name) tenant_of_given given

-- one has this name
pub is_named_again-tenants_of : (name : List ℕ) (given : List Given) → is_named_again name (tenants_of given) ≡ list_any (λ t. bytes_eq t.0.now name) given
is_named_again-tenants_of name [] = refl
is_named_again-tenants_of name (t ∷ given) = ap (λ rest. bytes_eq t.0.now name || rest) (is_named_again-tenants_of name given)

-- two have one name
pub has_name_twice-cons : (given later : List Given) (first : Given) → given ≡ first ∷ later → has_name_twice (tenants_of given) ≡ (list_any (λ t. bytes_eq t.0.now first.0.now) later || has_name_twice (tenants_of later))
has_name_twice-cons given later first is =
    rw is (ap (λ again. again || has_name_twice (tenants_of later)) (is_named_again-tenants_of first.0.now later))

-- the test passes at each place
list_all-get_or : {X : Type 0} (p : X → Bool) (xs : List X) (i : ℕ) (d : X) → i < length xs → list_all p xs ≡ true → p (get_or xs i d) ≡ true
list_all-get_or p xs i d within all = by_cases (p (get_or xs i d)) refl where
  by_cases : (passes : Bool) → p (get_or xs i d) ≡ passes → p (get_or xs i d) ≡ true
  by_cases true is = is
  by_cases false is = absurd (false≢true (sym (list_all_at p xs i d within is) ∙ all))

-- a name is no longer than a tenant's text
name_fits : (name : List ℕ) → is_tenant_name name ≡ true → length name ≤ 32
name_fits name is = grind (arith, nat_tests)

-- a test whose opposite fails holds
from_not : (b : Bool) → not b ≡ false → b ≡ true
from_not true is = refl
from_not false is = sym is

-- where the tenants have no fault, each name fits
pub names_fit : (blocks : ℕ) (given : List Given) → first_that_holds (tenant_tests blocks (tenants_of given)) ≡ None → (i : ℕ) (d : Given) → i < length given → length (get_or given i d).0.now ≤ 32
names_fit blocks given none i d within =
    let few = test-passed (is_outside (length (tenants_of given)) 16) _ _ none in
    let names = test-passed (not (list_all (λ t. is_tenant_name t.name) (tenants_of given))) _ _ few.1 in
    name_fits _ (list_all-get_or (λ t. is_tenant_name t.0.now) given i d within (sym (all_names_given given) ∙ from_not _ names.0))
