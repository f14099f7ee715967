use Rattle.std.proofs.Common.{◌≡◌, ◌++◌, length, take}
use Rattle.std.specs.List.{flat_map}
use Rattle.journal_records.specs.Records.{number, segment_bytes}
use Rattle.journal_records.proofs.kept_writer.put_segments.Given as goal

abbrev pub invariant-loop-place : goal.invariant-loop-place
invariant-loop-place l = l.out.items ≡ (l.fn.out.items ++ number (length l.upload.segments)) ++ flat_map segment_bytes (take l.place l.upload.segments)
