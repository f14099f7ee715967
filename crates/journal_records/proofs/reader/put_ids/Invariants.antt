use Rattle.std.proofs.Common.{◌≡◌, ◌-◌, ◌≤◌, length}
use Rattle.journal_records.specs.Reading.{many_at, optional_at}
use Rattle.journal_records.proofs.Parts.{with_front}
use Rattle.journal_records.proofs.reader.put_ids.Given as goal

abbrev pub invariant-loop : goal.invariant-loop
invariant-loop l = record {
  read : with_front optional_at l.parts.items (many_at optional_at (l.count - l.counter) l.rest) ≡ many_at optional_at l.count l.bytes;
  room : length l.parts.items ≤ l.counter;
}
