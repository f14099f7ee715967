use Rattle.std.proofs.Common.{◌≡◌, ◌≤◌, replicate, vec_len, vec_capacity}
use Rattle.head_board.proofs.last_changes.LastChanges.new.Given as goal

-- as many slots as turns, and room for all
abbrev pub invariant-loop : goal.invariant-loop
invariant-loop l = record {
  some : vec_len l.slots ≡ l.counter;
  room : 256 ≤ vec_capacity l.slots;
  same : l.slots.items ≡ replicate l.counter l.seen;
}
