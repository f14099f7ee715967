use Rattle.std.proofs.Common.{◌≡◌, ◌+◌, drop}
use Rattle.server_words.specs.MayFollow.{tenant_difference}
use Rattle.server_words.proofs.difference.tenant_difference.Given as goal

-- up to this place nothing differs
abbrev pub invariant-loop-place : goal.invariant-loop-place
invariant-loop-place l =
    tenant_difference 1 l.journal.tenants l.options.tenants ≡ tenant_difference (l.place + 1) (drop l.place l.journal.tenants) (drop l.place l.options.tenants)
