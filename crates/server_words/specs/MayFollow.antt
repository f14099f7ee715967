-- Which settings may follow those that a journal is of.
use Rattle.std.specs.Prelude.{◌≡◌, ℕ, ◌+◌, ◌&&◌, ◌==◌, not, List, [], ◌∷◌, map, Option, Some, None, bytes_eq, if◌then◌else◌}
use mathlib.Core.List.{IsPrefix}
use Rattle.upload_book.specs.Settings.{Settings}
use Rattle.upload_book.specs.declared.settings.TenantQuota.{TenantQuota}
use Rattle.server_words.specs.Sentences.{shown}
use Rattle.server_words.specs.declared.difference.Difference.{Difference}
use Rattle.server_words.specs.declared.difference.Difference.TheVariants.{FinishedLifetime, Lifetime, NoTenant, OtherTenant}

abbrev pub names_of : Settings → List (List ℕ)
names_of s = map {A = TenantQuota} {B = List ℕ} (λ t. t.name) s.tenants

-- Records are made again under the settings of a start. That makes each id, offset, byte and end the same again where both
-- lifetimes are the same, and each tenant stands at its place; new ones may stand behind them. What else there is of settings
-- only says which changes are accepted, and a record that they don't accept is told.
pub record MayFollow (old new : Settings) : Type 0 where
  pub lifetime : new.numbers.lifetime ≡ old.numbers.lifetime
  pub finished : new.numbers.finished_lifetime ≡ old.numbers.finished_lifetime
  pub tenants : IsPrefix (names_of old) (names_of new)

-- What differs: the lifetimes, or those of finished uploads, the old one first; or, at a place from 1, a tenant of the old settings, and the one of the new
-- settings there, if there is one. A name is as it is shown.
pub data SettingsDifference : Type 0 where
  lifetimes : ℕ → ℕ → SettingsDifference
  finished_lifetimes : ℕ → ℕ → SettingsDifference
  tenants_at : ℕ → List ℕ → Option (List ℕ) → SettingsDifference

-- the first tenants that differ, where the first of both have this place
abbrev pub tenant_difference : ℕ → List TenantQuota → List TenantQuota → Option SettingsDifference
tenant_difference place [] new = None
tenant_difference place (t ∷ old) [] = Some (tenants_at place (shown t.name) None)
tenant_difference place (t ∷ old) (u ∷ new) =
    if bytes_eq t.name u.name then tenant_difference (place + 1) old new
    else Some (tenants_at place (shown t.name) (Some (shown u.name)))

-- the same where the lifetimes of unfinished uploads are the same
abbrev pub finished_difference : Settings → Settings → Option SettingsDifference
finished_difference old new =
    if old.numbers.finished_lifetime == new.numbers.finished_lifetime then tenant_difference 1 old.tenants new.tenants
    else Some (finished_lifetimes old.numbers.finished_lifetime new.numbers.finished_lifetime)

-- what differs first, if anything does: the lifetimes come before the tenants
abbrev pub first_difference : Settings → Settings → Option SettingsDifference
first_difference old new =
    if old.numbers.lifetime == new.numbers.lifetime then finished_difference old new
    else Some (lifetimes old.numbers.lifetime new.numbers.lifetime)

-- What first keeps the uploads of a journal from being put under new settings, if anything does: that finished ones stay by these,
-- where they end by themselves in the journal, or a tenant.
abbrev pub renewing_difference : Settings → Settings → Option SettingsDifference
renewing_difference old new =
    if new.numbers.finished_lifetime == 0 && not (old.numbers.finished_lifetime == 0)
    then Some (finished_lifetimes old.numbers.finished_lifetime new.numbers.finished_lifetime)
    else tenant_difference 1 old.tenants new.tenants

-- what the program's value says
abbrev pub difference_in : Difference → SettingsDifference
difference_in (Lifetime journal options) = lifetimes journal options
difference_in (FinishedLifetime journal options) = finished_lifetimes journal options
difference_in (NoTenant place journal) = tenants_at place journal.bytes None
difference_in (OtherTenant place journal options) = tenants_at place journal.bytes (Some options.bytes)
