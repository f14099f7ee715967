use Rattle.std.proofs.Common.{◌≡◌, ◌-◌, ◌≤◌, length}
use Rattle.journal_records.specs.Reading.{many_at, segment_at}
use Rattle.journal_records.proofs.Parts.{with_front}
use Rattle.journal_records.proofs.piece_reader.put_run.Given as goal

abbrev pub invariant-loop : goal.invariant-loop
invariant-loop l = record {
  read : with_front segment_at l.segments.items (many_at segment_at (l.count - l.counter) l.rest) ≡ many_at segment_at l.count l.bytes;
  room : length l.segments.items ≤ l.counter;
}
