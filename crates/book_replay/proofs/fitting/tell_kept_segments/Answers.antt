use Rattle.std.proofs.Common.{◌<◌, length, arith}
use Rattle.journal_records.specs.Records.{FitsSegment}
use Rattle.book_replay.proofs.SnapshotLemmas.{all-more}
use Rattle.book_replay.proofs.fitting.tell_kept_segments.Goals as goal

pub loop-place-preserved : goal.loop-place-preserved
loop-place-preserved c =
    let segments = c.args.upload.now.segments in
    let within : c.loop-place.place < length segments = omega (arith, c.loop-place-test.true, c.segment_count-place-end.ensures) in
    all-more FitsSegment segments c.loop-place.place c.segment.result within c.segment.ensures c.loop-place.invariant c.tell_kept_segment.ensures
