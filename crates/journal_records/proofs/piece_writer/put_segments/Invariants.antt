use Rattle.std.proofs.Common.{◌≡◌, ◌++◌, length, take}
use Rattle.std.specs.List.{flat_map}
use Rattle.journal_records.specs.Records.{number, segment_bytes}
use Rattle.journal_records.proofs.piece_writer.put_segments.Given as goal

abbrev pub invariant-loop-segment : goal.invariant-loop-segment
invariant-loop-segment l = l.out.items ≡ (l.fn.out.items ++ number (length l.segments)) ++ flat_map segment_bytes (take l.segment-index l.segments)
