use Rattle.std.proofs.Common.{◌≡◌, ◌++◌, map, take}
use Rattle.std.specs.List.{flat_map}
use Rattle.service_watch.specs.Metrics.{named_sample, sample_text}
use Rattle.service_watch.proofs.exposition.put_named_counts.Given as goal

abbrev pub invariant-loop-count : goal.invariant-loop-count
invariant-loop-count l = l.out.items ≡ l.fn.out.items ++ flat_map (sample_text l.name) (map (named_sample l.label) (take l.count-index l.counts))
