-- How a request comes to ask for an operation, test by test.
use Rattle.std.proofs.Common.{◌≡◌, ℕ, Bool, true, false, cond, List, Option, Some, None, Result, Ok, Err, refl}
use Rattle.std.specs.Prelude.{ok_or, option_map}
use Rattle.upload_book.specs.Operation.{Operation}
use Rattle.upload_book.specs.declared.refusal.Refusal.{Refusal}
use Rattle.upload_book.specs.declared.refusal.Refusal.TheVariants as refusal
use Rattle.upload_book.specs.Settings.{Settings, tenant_place}
use Rattle.tus_steps.specs.Asked.{asked_for, asked_or}
use Rattle.tus_steps.specs.Route.{Route, route, tenant_name}
use Rattle.tus_steps.specs.Operation.{found_or, has_version, operation_of, operation_on}
use Rattle.tus_steps.specs.Request.{Request}

-- what was found to be asked for, and why nothing was
pub asked-found : (found : Option Operation) (why : Refusal) → ok_or (option_map asked_for found) why ≡ asked_or (ok_or found why)
asked-found None why = refl
asked-found (Some op) why = refl

pub refused-for : (found : Result Operation Refusal) (why : Refusal) → asked_or found ≡ Err why → found ≡ Err why
refused-for (Ok op) why is = absurd cc
refused-for (Err other) why is = cc

-- the request names a tenant of the settings, and a route there on which its fields tell the operation
pub record Asks (s : Settings) (r : Request) (op : Operation) : Type 0 where
  pub name : List ℕ
  pub tenant : ℕ
  pub on : Route
  pub version : has_version r ≡ true
  pub named : tenant_name r.path ≡ Some name
  pub place : tenant_place s name ≡ Some tenant
  pub route : route r.path r.method ≡ Some on
  pub operation : operation_on r tenant on ≡ Some op

found_or-Ok : {A B : Type 0} (why : Refusal) (found : Option A) (next : A → Result B Refusal) (x : B) → found_or why found next ≡ Ok x → (a : A) × (found ≡ Some a) × (next a ≡ Ok x)
found_or-Ok why None next x is = absurd cc
found_or-Ok why (Some a) next x is = (a, refl, is)

ok_or-Ok : {A E : Type 0} (found : Option A) (why : E) (x : A) → ok_or found why ≡ Ok x → found ≡ Some x
ok_or-Ok None why x is = absurd cc
ok_or-Ok (Some a) why x is = cc

cond-Ok : {A E : Type 0} (test : Bool) (chosen : Result A E) (why : E) (x : A) → cond test chosen (Err why) ≡ Ok x → (test ≡ true) × (chosen ≡ Ok x)
cond-Ok true chosen why x is = (refl, is)
cond-Ok false chosen why x is = absurd cc

-- a request that asks for an operation passed each test
pub asks : (s : Settings) (r : Request) (op : Operation) → operation_of s r ≡ Ok op → Asks s r op
asks s r op is =
    let version = cond-Ok (has_version r) _ _ op is in
    let named = found_or-Ok refusal.Path (tenant_name r.path) _ op version.1 in
    let place = found_or-Ok refusal.Tenant (tenant_place s named.0) _ op named.2 in
    let on = found_or-Ok refusal.Method (route r.path r.method) _ op place.2 in
    record {
      name = named.0;
      tenant = place.0;
      on = on.0;
      version = version.0;
      named = named.1;
      place = place.1;
      route = on.1;
      operation = ok_or-Ok (operation_on r place.0 on.0) refusal.Field op on.2;
    }
