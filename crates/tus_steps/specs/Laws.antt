-- The order in which a request is refused before the book is asked.
use Rattle.std.specs.Prelude.{◌≡◌, Bool, true, not, List, [], ◌∷◌, is_none, option_and_then}
use Rattle.std.specs.Result.{result_err}
use Rattle.upload_book.specs.declared.refusal.Refusal.{Refusal}
use Rattle.upload_book.specs.declared.refusal.Refusal.TheVariants as refusal
use Rattle.upload_book.specs.laws.Order.{order, stand_in}
use Rattle.upload_book.specs.Refusal.{first_that_holds, words_of}
use Rattle.upload_book.specs.Settings.{Settings, tenant_place}
use Rattle.tus_steps.specs.Operation.{has_version, operation_on, operation_of}
use Rattle.tus_steps.specs.Request.{Request}
use Rattle.tus_steps.specs.Route.{route, tenant_name}

-- the tests of a request, in their order: each looks for what the request is to have
abbrev pub request_tests : Settings → Request → List (Bool × Refusal)
request_tests s r =
    (not (has_version r), refusal.Version)
    ∷ (is_none (tenant_name r.path), refusal.Path)
    ∷ (is_none (option_and_then (tenant_place s) (tenant_name r.path)), refusal.Tenant)
    ∷ (is_none (route r.path r.method), refusal.Method)
    ∷ (is_none (option_and_then (operation_on r 0) (route r.path r.method)), refusal.Field)
    ∷ []

-- A request asks for no operation exactly for the first of these reasons, and they follow the order of
-- refusals.
pub record RequestsFollowOrder : Type 0 where
  pub first : (s : Settings) (r : Request) → result_err (operation_of s r) ≡ first_that_holds (request_tests s r)
  pub order : (s : Settings) (r : Request) → stand_in (words_of (request_tests s r)) order ≡ true
