use Rattle.std.proofs.Common.{ℕ, Some, ap, subst, sym, ◌∙◌}
use Rattle.upload_book.specs.Book.{IsBook}
use Rattle.upload_book.specs.Create.{new_kind}
use Rattle.upload_book.specs.declared.board_line.HeadChange.TheVariants.{Put}
use Rattle.upload_book.specs.declared.head_row.HeadRow.{HeadRow}
use Rattle.upload_book.specs.declared.head_row.Name.{Name}
use Rattle.upload_book.proofs.Heads.LineSteps.{upload-head}
use Rattle.upload_book.proofs.book.Book.head_of_upload.Goals as goal

pub returns : goal.returns
returns c =
    let r = c.args.ready.now in
    let told : ℕ → HeadRow = λ len. record { kind = new_kind r.new.partial; offset = len; declared = r.new.length; metadata = r.new.metadata; concat = r.new.concat; expires = r.expires } in
    upload-head c.args.self.now r (subst IsBook c.self.view_is c.self.invariant) c.requires c.copied.result (c.copied.ensures ∙ c.row-row.ensures ∙ ap told c.len.ensures)
    ∙ ap (λ (name : Name). Some (Put name c.copied.result)) (sym c.next_name.ensures)
