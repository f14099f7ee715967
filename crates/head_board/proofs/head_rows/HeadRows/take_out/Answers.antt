use Rattle.std.proofs.Common.{ap, sym, subst}
use Rattle.upload_book.specs.inside.Ids.{AreBelow}
use Rattle.upload_book.proofs.Lawful.IdLemmas.{AreBelow-remove}
use Rattle.head_board.specs.inside.RowList.{ListedRows}
use Rattle.head_board.proofs.RowLemmas.{no_row}
use Rattle.head_board.proofs.head_rows.HeadRows.take_out.Goals as goal

pub invariant_of-self : goal.invariant_of-self
invariant_of-self c =
    subst (λ (list : ListedRows). AreBelow c.self.inside.next list.rows) (sym c.take_out.ensures)
    (AreBelow-remove c.self.inside.next c.self.inside.list.rows c.args.place no_row (rw (← c.self.view_is) at c.requires) c.self.invariant)
