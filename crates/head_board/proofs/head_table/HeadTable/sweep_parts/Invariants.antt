use Rattle.std.proofs.Common.{◌≡◌, ◌++◌, map, take, drop}
use Rattle.head_board.proofs.TableLemmas.{swept}
use Rattle.head_board.specs.inside.Rows.{Rows}
use Rattle.head_board.proofs.head_table.HeadTable.sweep_parts.Given as goal

-- the tenants before this one are swept
abbrev pub invariant-loop-part : goal.invariant-loop-part
invariant-loop-part l =
    l.part-items ≡ map {A = Rows} {B = Rows} (swept l.now) (take l.part-index l.initial.part-items) ++ drop l.part-index l.initial.part-items
