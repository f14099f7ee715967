use Rattle.head_board.proofs.ListedLemmas.{listed-grown}
use Rattle.head_board.proofs.row_list.RowList.grow.Goals as goal

pub returns : goal.returns
returns c d =
    rw (← c.self.view_is) (listed-grown c.self.inside.room c.self.inside.rows.items c.args.place c.index_mut.result.now c.grow.new.self c.args.growth.now d (rw (← c.self.view_is) at c.requires) c.index_mut.ensures.value c.grow.ensures)
