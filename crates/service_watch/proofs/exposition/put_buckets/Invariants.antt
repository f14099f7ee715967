use Rattle.std.proofs.Common.{◌≡◌, ◌++◌, map, take}
use Rattle.std.specs.List.{flat_map}
use Rattle.service_watch.specs.Metrics.{bucket_sample, sample_text}
use Rattle.service_watch.proofs.exposition.put_buckets.Given as goal

abbrev pub invariant-loop-bucket : goal.invariant-loop-bucket
invariant-loop-bucket l = l.out.items ≡ l.fn.out.items ++ flat_map (sample_text l.name) (map bucket_sample (take l.bucket-index l.buckets))
