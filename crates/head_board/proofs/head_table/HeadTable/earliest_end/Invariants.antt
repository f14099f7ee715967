use Rattle.std.proofs.Common.{take}
use Rattle.head_board.proofs.BoundLemmas.{AllBounded}
use Rattle.head_board.proofs.head_table.HeadTable.earliest_end.Given as goal

-- the rows of the tenants before this one do not end before the first
abbrev pub invariant-loop-part : goal.invariant-loop-part
invariant-loop-part l = AllBounded l.first (take l.part-index l.initial.part-items)
