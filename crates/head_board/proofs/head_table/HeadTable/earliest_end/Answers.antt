use Rattle.head_board.proofs.BoundLemmas.{bounded-all}
use Rattle.head_board.proofs.head_table.HeadTable.earliest_end.Goals as goal

pub returns : goal.returns
returns c =
    rw (← c.self.view_is) (bounded-all c.loop-part.first c.loop-part.part-index c.self.inside.parts.items c.deref-part-items.result.now c.deref-part-items.ensures.value c.loop-part-test.false c.loop-part.invariant)
