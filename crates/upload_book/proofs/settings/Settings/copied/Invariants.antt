use Rattle.std.proofs.Common.{◌≡◌, take}
use Rattle.upload_book.proofs.settings.Settings.copied.Given as goal

abbrev pub invariant-loop-tenant : goal.invariant-loop-tenant
invariant-loop-tenant l = l.tenants.items ≡ take l.tenant-index l.tenant-items
