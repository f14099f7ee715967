-- The line of a fault.
use Rattle.std.proofs.Common.{◌≤◌, length, arith}
use Rattle.upload_book.specs.declared.settings_fault.SettingsFault.{SettingsFault}
use Rattle.upload_book.specs.declared.settings_fault.SettingsFault.TheVariants as settings
use Rattle.upload_book.specs.Settings.{fault_word}

-- no word of the settings' faults is long
pub short_word : (fault : SettingsFault) → length (fault_word fault) ≤ 17
short_word settings.Blocks = omega arith
short_word settings.BlockSize = omega arith
short_word settings.PoolBytes = omega arith
short_word settings.Lifetime = omega arith
short_word settings.FinishedLifetime = omega arith
short_word settings.MaxSize = omega arith
short_word settings.Uploads = omega arith
short_word settings.LastId = omega arith
short_word settings.TenantCount = omega arith
short_word settings.TenantName = omega arith
short_word settings.TenantTwice = omega arith
short_word settings.Quota = omega arith
