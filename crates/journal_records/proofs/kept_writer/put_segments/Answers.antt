use Rattle.std.proofs.Common.{◌<◌, ◌++◌, length, arith}
use Rattle.journal_records.specs.Records.{number}
use Rattle.journal_records.proofs.Kept.{more-segments}
use Rattle.journal_records.proofs.kept_writer.put_segments.Goals as goal

pub loop-place-preserved : goal.loop-place-preserved
loop-place-preserved c =
    let segments = c.args.upload.now.segments in
    let within : c.loop-place.place < length segments = omega (arith, c.loop-place-test.true, c.segment_count-count.ensures) in
    rw c.in_ok-put_segment.ensures
    (more-segments segments c.loop-place.place c.segment.result (c.args.out.now.items ++ number (length segments)) c.loop-place.out.items within c.segment.ensures c.loop-place.invariant)
