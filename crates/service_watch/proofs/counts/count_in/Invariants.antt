use Rattle.std.proofs.Common.{◌≡◌, ◌++◌, drop, map, take}
use Rattle.service_watch.specs.Counts.{bucket_with}
use Rattle.service_watch.proofs.counts.count_in.Given as goal

abbrev pub invariant-loop-bucket : goal.invariant-loop-bucket
invariant-loop-bucket l =
    l.buckets ≡ map (bucket_with l.micros) (take l.bucket-index l.initial.buckets) ++ drop l.bucket-index l.initial.buckets
