use Rattle.std.proofs.Common.{Option, Some, ap, subst, sym, ◌∙◌}
use Rattle.upload_book.specs.Book.{IsBook}
use Rattle.upload_book.specs.declared.board_line.HeadChange.{HeadChange}
use Rattle.upload_book.specs.declared.board_line.HeadChange.TheVariants.{Put}
use Rattle.upload_book.specs.declared.head_row.Name.{Name}
use Rattle.upload_book.proofs.Heads.LineBack.{own-bytes, own-head, own-segment}
use Rattle.upload_book.proofs.book.Book.head_of_own.Goals as goal

pub returns : goal.returns
returns c now =
    let b = c.args.self.now in
    let r = c.args.ready.now in
    let kept = subst IsBook c.self.view_is c.self.invariant in
    let put : Name → Option HeadChange = λ name. Some (Put name c.copied.result) in
    own-head b r kept c.requires now c.copied.result (c.copied.ensures ∙ c.own_row-row.ensures (own-bytes b r kept c.requires) (own-segment b r kept c.requires))
    ∙ ap put (sym c.name.ensures)
