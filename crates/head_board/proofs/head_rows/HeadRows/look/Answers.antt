use Rattle.std.proofs.Common.{Ok, sym, ap, get_or, ◌∙◌, arith}
use Rattle.head_board.proofs.RowLemmas.{found-within, look-found, look-expired, look-ended, no_row, read-itself}
use Rattle.head_board.specs.inside.Rows.{rows_of}
use Rattle.head_board.proofs.head_rows.HeadRows.look.Goals as goal

pub returns : goal.returns
returns c =
    let rows = c.self.inside.list.rows in
    let found = sym (rw (← c.self.view_is) at c.in-Some.ensures.place) in
    let read = read-itself rows c.in-Some.place (found-within rows c.args.id c.in-Some.place found) in
    rw (← c.self.view_is) (ap Ok (c.lent.ensures no_row) ∙ sym (look-found (rows_of c.self.inside).part c.args.id c.args.now c.in-Some.place (get_or rows c.in-Some.place no_row) (omega arith) (omega arith) found read (sym (c.has_expired.ensures no_row) ∙ c.if-has_expired.false)))

pub returns-then-has_expired : goal.returns-then-has_expired
returns-then-has_expired c =
    let rows = c.self.inside.list.rows in
    let found = sym (rw (← c.self.view_is) at c.in-Some.ensures.place) in
    let read = read-itself rows c.in-Some.place (found-within rows c.args.id c.in-Some.place found) in
    rw (← c.self.view_is) (sym (look-expired (rows_of c.self.inside).part c.args.id c.args.now c.in-Some.place (get_or rows c.in-Some.place no_row) (omega arith) (omega arith) found read (sym (c.has_expired.ensures no_row) ∙ c.if-has_expired.true)))

pub returns-in_default : goal.returns-in_default
returns-in_default c =
    rw (← c.self.view_is) (sym (look-ended (rows_of c.self.inside).part c.args.id c.args.now (omega arith) (omega arith) (sym (rw (← c.self.view_is) at c.place.ensures.place) ∙ c.in_default.is)))
