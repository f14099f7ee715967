use Rattle.std.proofs.Common.{take}
use Rattle.std.specs.List.{AllByRecursion}
use Rattle.journal_records.specs.Records.{FitsSegment}
use Rattle.book_replay.proofs.fitting.tell_kept_segments.Given as goal

-- the first of them fit
abbrev pub invariant-loop-place : goal.invariant-loop-place
invariant-loop-place l = AllByRecursion FitsSegment (take l.place l.upload.segments)
