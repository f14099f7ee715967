-- The settings that numbers and words NAME:QUOTA give.
use Rattle.std.specs.Prelude.{ℕ, List, Option, Some, None, Result, Err}
use Rattle.upload_book.specs.Settings.{Settings, settings_of}
use Rattle.upload_book.specs.declared.settings.Bounds.{Bounds}
use Rattle.upload_book.specs.declared.settings.Numbers.{Numbers}
use Rattle.upload_book.specs.declared.settings.TenantQuota.{TenantQuota}
use Rattle.upload_book.specs.declared.settings_fault.SettingsFault.{SettingsFault}
use Rattle.upload_book.specs.declared.settings_fault.SettingsFault.TheVariants.{TenantName}
use Rattle.server_words.specs.Arguments.{TalkArguments, bounds_by}
use Rattle.server_words.specs.Tenants.{tenants_in}

-- the settings of these numbers and tenants under these bounds, or their first fault, which is that of a name where one of the
-- words names no tenant
abbrev pub settings_with : Bounds → Numbers → Option (List TenantQuota) → Result Settings SettingsFault
settings_with bounds numbers None = Err TenantName
settings_with bounds numbers (Some tenants) = settings_of bounds (record { numbers = numbers; tenants = tenants })

-- the settings that numbers and words give under these bounds, or their first fault: that of a word comes before every other
abbrev pub settings_given : Bounds → Numbers → List (List ℕ) → Result Settings SettingsFault
settings_given bounds numbers words = settings_with bounds numbers (tenants_in numbers.block_size words)

-- the settings of the arguments of `talk`, or their first fault; their bounds are wide where bodies are stored in pieces
abbrev pub talk_settings : TalkArguments → Result Settings SettingsFault
talk_settings arguments = settings_given (bounds_by arguments.piece) arguments.numbers arguments.tenants
