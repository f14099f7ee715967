use Rattle.std.proofs.Common.{Option, Some, ap, subst, sym, ◌∙◌}
use Rattle.upload_book.specs.Book.{IsBook}
use Rattle.upload_book.specs.declared.board_line.HeadChange.{HeadChange}
use Rattle.upload_book.specs.declared.board_line.HeadChange.TheVariants.{Put}
use Rattle.upload_book.specs.declared.head_row.Name.{Name}
use Rattle.upload_book.proofs.Heads.LineBack.{joined-head}
use Rattle.upload_book.proofs.book.Book.head_of_joined.Goals as goal

pub returns : goal.returns
returns c now =
    let put : Name → Option HeadChange = λ name. Some (Put name c.copied.result) in
    joined-head c.args.self.now c.args.ready.now (subst IsBook c.self.view_is c.self.invariant) c.requires now c.copied.result (c.copied.ensures ∙ c.final_row-row.ensures)
    ∙ ap put (sym c.name.ensures)
