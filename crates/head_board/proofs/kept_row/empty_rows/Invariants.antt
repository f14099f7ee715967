use Rattle.std.proofs.Common.{◌≡◌, ◌≤◌, vec_len, vec_capacity}
use Rattle.head_board.proofs.kept_row.empty_rows.Given as goal

-- as many boxes as turns, and room for all
abbrev pub invariant-loop : goal.invariant-loop
invariant-loop l = record { some : vec_len l.rows ≡ l.counter; room : l.count ≤ vec_capacity l.rows }
