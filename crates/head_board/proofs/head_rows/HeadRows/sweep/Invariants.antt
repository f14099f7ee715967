use Rattle.head_board.proofs.RowLemmas.{IsSweptFrom}
use Rattle.head_board.proofs.head_rows.HeadRows.sweep.Given as goal

-- the rows from there on have not expired, and those that had were taken out
abbrev pub invariant-loop-from : goal.invariant-loop-from
invariant-loop-from l = IsSweptFrom l.fn.self l.self l.now l.from

abbrev pub decreases-loop-from : goal.decreases-loop-from
decreases-loop-from l = l.from
