use Rattle.std.proofs.Common.{Some, ap, subst, sym, ◌∙◌}
use Rattle.upload_book.specs.Book.{IsBook}
use Rattle.upload_book.specs.declared.board_line.HeadChange.TheVariants.{Put}
use Rattle.upload_book.specs.declared.head_row.Name.{Name}
use Rattle.upload_book.proofs.Heads.LineSteps.{final-head}
use Rattle.upload_book.proofs.book.Book.head_of_final.Goals as goal

pub returns : goal.returns
returns c =
    final-head c.args.self.now c.args.ready.now (subst IsBook c.self.view_is c.self.invariant) c.requires c.copied.result (c.copied.ensures ∙ c.row-row.ensures)
    ∙ ap (λ (name : Name). Some (Put name c.copied.result)) (sym c.next_name.ensures)
