use Rattle.std.proofs.Common.{◌≡◌, List, ℕ, ◌++◌, map, take}
use Rattle.upload_book.specs.declared.settings.TenantQuota.{TenantQuota}
use Rattle.server_words.specs.SettingsFile.{lines, number_words, tenant_word}
use Rattle.server_words.proofs.settings_file.settings_text.Given as goal

-- the text has the numbers, and the tenants so far
abbrev pub invariant-loop-place : goal.invariant-loop-place
invariant-loop-place l =
    l.text.items ≡ lines (number_words l.settings.numbers ++ map {A = TenantQuota} {B = List ℕ} tenant_word (take l.place l.settings.tenants))
