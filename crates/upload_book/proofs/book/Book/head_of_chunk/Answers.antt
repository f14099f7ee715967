use Rattle.std.proofs.Common.{ap, ap₂, subst, ◌∙◌}
use Rattle.upload_book.specs.Book.{StoredBook, IsBook}
use Rattle.upload_book.specs.BlockStore.{upload_at}
use Rattle.upload_book.specs.declared.head_row.HeadRow.{HeadRow}
use Rattle.upload_book.specs.Upload.{head_row_of}
use Rattle.upload_book.proofs.Heads.LineSteps.{chunk-head}
use Rattle.upload_book.proofs.book.Book.head_of_chunk.Goals as goal

pub returns : goal.returns
returns c =
    let b = c.args.self.now in
    let r = c.args.ready.now in
    let row = (c.copied-before.ensures ∙ c.head_row.ensures) ∙ ap₂ (λ (b : StoredBook) t. head_row_of (upload_at b.store t r.place)) c.self.view_is c.from.ensures in
    let later : HeadRow → HeadRow = λ row. record row { offset = r.after.offset; declared = r.after.declared; expires = r.after.expires } in
    chunk-head b r (subst IsBook c.self.view_is c.self.invariant) c.requires (later c.copied-before.result) (ap later row)
