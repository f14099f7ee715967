use Rattle.std.proofs.Common.{◌≡◌, ◌++◌, codes, map, take}
use Rattle.std.specs.List.{flat_map}
use Rattle.service_watch.specs.Metrics.{figure, labelled, sample_text}
use Rattle.service_watch.proofs.exposition.put_each_tenant.Given as goal

abbrev pub invariant-loop-tenant : goal.invariant-loop-tenant
invariant-loop-tenant l = l.out.items ≡ l.fn.out.items ++ flat_map (sample_text l.name) (map (λ t. labelled (codes "tenant") t.name (figure l.told t)) (take l.tenant-index l.tenants))
