use Rattle.std.proofs.Common.{◌+◌, sym, subst}
use Rattle.upload_book.specs.inside.Ids.{AreBelow}
use Rattle.upload_book.proofs.Lawful.IdLemmas.{AreBelow-push}
use Rattle.head_board.specs.inside.RowList.{ListedRows}
use Rattle.head_board.proofs.head_rows.HeadRows.add.Goals as goal

pub invariant_of-self : goal.invariant_of-self
invariant_of-self c =
    subst (λ (list : ListedRows). AreBelow (c.self.inside.next + 1) list.rows) (sym c.push.ensures)
    (AreBelow-push c.self.inside.next c.self.inside.list.rows c.args.row.now c.self.invariant)
