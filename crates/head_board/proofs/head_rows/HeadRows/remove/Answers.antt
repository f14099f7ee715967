use Rattle.std.proofs.Common.{sym, ◌∙◌}
use Rattle.head_board.proofs.RowLemmas.{is_absent, is_removed, same_rows, with_rows, without-absent}
use Rattle.head_board.proofs.head_rows.HeadRows.remove.Goals as goal

pub returns-in-Some : goal.returns-in-Some
returns-in-Some c =
    let r = c.args.self.now in
    c.take_out.ensures ∙ with_rows r _ _ (is_removed r.part.uploads c.args.id c.in-Some.place c.place.ensures.ascending (sym c.in-Some.ensures.place))

pub returns-in_default : goal.returns-in_default
returns-in_default c =
    let r = c.args.self.now in
    same_rows r _ (without-absent r.part.uploads c.args.id (is_absent r.part.uploads c.args.id (sym c.place.ensures.place ∙ c.in_default.is)))
