use Rattle.std.proofs.Common.{◌≡◌, ◌+◌, drop, sum_by}
use Rattle.upload_book.specs.Settings.{tenants_of}
use Rattle.upload_book.proofs.settings.quotas_fit.Given as goal

abbrev pub invariant-loop-quota : goal.invariant-loop-quota
invariant-loop-quota l =
    l.left + sum_by (λ t. t.quota) (tenants_of l.tenants) ≡ l.blocks + sum_by (λ t. t.quota) (tenants_of (drop l.quota-index l.tenants))
