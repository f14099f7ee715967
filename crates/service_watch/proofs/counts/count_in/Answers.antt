use Rattle.std.proofs.Common.{◌<◌, length, rules}
use Rattle.std.proofs.lemmas.List.{get_or_default}
use Rattle.std.proofs.lemmas.List.Edits.{map_over_more}
use Rattle.service_watch.specs.Counts.{bucket_with}
use Rattle.service_watch.proofs.counts.count_in.Goals as goal

pub loop-bucket-preserved : goal.loop-bucket-preserved
loop-bucket-preserved c =
    let here : c.loop-bucket.bucket-index < length c.args.buckets.now = search rules in
    let there : c.loop-bucket.bucket-index < length c.loop-bucket.buckets = search rules in
    rw c.counted.ensures
    (map_over_more (bucket_with c.args.micros) c.args.buckets.now c.loop-bucket.buckets c.loop-bucket.bucket-index _ here c.loop-bucket.invariant
    (get_or_default c.loop-bucket.buckets c.loop-bucket.bucket-index _ _ there))
