use Rattle.std.proofs.Common.{ap, refl, subst}
use Rattle.std.specs.Option.{option_map}
use Rattle.upload_book.specs.Book.{IsBook}
use Rattle.upload_book.specs.BlockStore.{upload_at}
use Rattle.upload_book.specs.declared.board_line.HeadChange.TheVariants.{Put}
use Rattle.upload_book.specs.declared.head_row.HeadRow.{HeadRow}
use Rattle.upload_book.specs.Upload.{head_row_of}
use Rattle.upload_book.proofs.Heads.LineSteps.{chunk-head, chunk-stands}
use Rattle.upload_book.proofs.book.Book.note_of_chunk.Goals as goal

pub returns : goal.returns
returns c =
    let b = c.args.self.now in
    let r = c.args.ready.now in
    let kept = subst IsBook c.self.view_is c.self.invariant in
    let later : HeadRow → HeadRow = λ row. record row { offset = r.after.offset; declared = r.after.declared; expires = r.after.expires } in
    let row : HeadRow = later (head_row_of (upload_at b.store r.name.tenant r.place)) in
    record {
      head = Put r.name row;
      is = chunk-head b r kept c.requires row refl;
      told = ap (option_map (λ (row : HeadRow). Put r.name (later row))) (chunk-stands b r kept c.requires);
      texts = tt;
    }
