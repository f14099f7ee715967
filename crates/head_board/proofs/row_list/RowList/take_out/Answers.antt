use Rattle.head_board.proofs.ListedLemmas.{listed-fewer}
use Rattle.head_board.proofs.row_list.RowList.take_out.Goals as goal

pub returns : goal.returns
returns c =
    rw (← c.self.view_is) (listed-fewer c.self.inside.room c.self.inside.rows.items c.remove-row.new.self.items c.args.place c.remove-row.ensures.items)
