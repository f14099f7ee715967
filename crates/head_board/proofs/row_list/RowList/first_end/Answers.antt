use Rattle.head_board.proofs.ListedLemmas.{bounded-rows}
use Rattle.head_board.proofs.row_list.RowList.first_end.Goals as goal

pub returns : goal.returns
returns c =
    rw (← c.self.view_is) (bounded-rows c.loop-row.first c.loop-row.row-index c.self.inside.rows.items c.deref-row-items.result.now c.deref-row-items.ensures.value c.loop-row-test.false c.loop-row.invariant)
