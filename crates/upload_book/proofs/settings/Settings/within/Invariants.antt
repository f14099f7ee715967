use Rattle.std.proofs.Common.{◌≡◌, take}
use Rattle.upload_book.specs.Settings.{tenants_of}
use Rattle.upload_book.proofs.settings.Settings.within.Given as goal

abbrev pub invariant-loop-name : goal.invariant-loop-name
invariant-loop-name l = l.kept.items ≡ tenants_of (take l.name-index l.tenants)
