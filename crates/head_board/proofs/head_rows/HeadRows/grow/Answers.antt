use Rattle.std.proofs.Common.{List, refl, sym, ap, subst, get_or, ◌∙◌}
use Rattle.upload_book.specs.declared.head_row.HeadRow.{HeadRow}
use Rattle.upload_book.specs.HeadNotes.{row_grown}
use Rattle.upload_book.specs.inside.Ids.{AreBelow}
use Rattle.upload_book.specs.TenantBook.{Entry}
use Rattle.upload_book.proofs.Lawful.IdLemmas.{AreBelow-set}
use Rattle.head_board.specs.inside.RowList.{ListedRows}
use Rattle.head_board.specs.inside.Rows.{Rows}
use Rattle.head_board.proofs.RowLemmas.{found-within, is_absent, is_set, kept-placed, no_row, not-next, read-itself}
use Rattle.head_board.proofs.head_rows.HeadRows.grow.Goals as goal

pub invariant_of-self : goal.invariant_of-self
invariant_of-self c =
    let rows = c.self.inside.list.rows in
    let within = found-within rows c.args.id c.in-Some.place (sym (rw (← c.self.view_is) at c.in-Some.ensures.place)) in
    subst (λ (list : ListedRows). AreBelow c.self.inside.next list.rows) (sym (c.grow.ensures no_row))
    (AreBelow-set c.self.inside.next rows c.in-Some.place (get_or rows c.in-Some.place no_row) _ within (read-itself rows c.in-Some.place within) refl c.self.invariant)

pub returns : goal.returns
returns c =
    let rows = c.self.inside.list.rows in
    let e = get_or rows c.in-Some.place no_row in
    let found = sym (rw (← c.self.view_is) at c.in-Some.ensures.place) in
    let read = read-itself rows c.in-Some.place (found-within rows c.args.id c.in-Some.place found) in
    let set_is = is_set rows c.args.id c.in-Some.place e _ (row_grown c.args.growth.now e.kept) c.self.invariant.ascending found read refl in
    let view : ListedRows → Rows = λ list. record { part = record { quota = c.self.inside.quota; next = c.self.inside.next; uploads = list.rows }; room = list.room } in
    let changed : List (Entry HeadRow) → ListedRows = λ rows. record { rows = rows; room = c.self.inside.list.room } in
    rw (← c.self.view_is) (e.kept, kept-placed rows c.args.id c.in-Some.place e found read, not-next c.self.inside.next rows c.args.id c.in-Some.place e found c.self.invariant, ap view (c.grow.ensures no_row ∙ ap changed set_is))

pub returns-in_default : goal.returns-in_default
returns-in_default c =
    (is_absent c.args.self.now.part.uploads c.args.id (sym c.place.ensures.place ∙ c.in_default.is), refl)
