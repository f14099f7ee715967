use Rattle.std.proofs.Common.{ℕ, ap, subst, ◌∙◌}
use Rattle.upload_book.specs.Book.{IsBook, plain_of}
use Rattle.upload_book.specs.contracts.book.Book.{the_view}
use Rattle.upload_book.specs.Create.{new_kind}
use Rattle.upload_book.specs.Heads.{heads_of}
use Rattle.upload_book.specs.declared.board_line.HeadChange.TheVariants.{Put}
use Rattle.upload_book.specs.declared.head_row.HeadRow.{HeadRow}
use Rattle.upload_book.proofs.Heads.LineSteps.{next-told, next_name, shares-read, texts-read, upload-head}
use Rattle.upload_book.proofs.book.Book.note_of_upload.Goals as goal

pub returns : goal.returns
returns c =
    let b = c.args.self.now in
    let r = c.args.ready.now in
    let told : ℕ → HeadRow = λ len. record { kind = new_kind r.new.partial; offset = len; declared = r.new.length; metadata = r.new.metadata; concat = r.new.concat; expires = r.expires } in
    record {
      head = Put (next_name b r.tenant) c.row-row.result;
      is = upload-head b r (subst IsBook c.self.view_is c.self.invariant) c.requires c.row-row.result (c.row-row.ensures ∙ ap told c.len.ensures);
      told = c.created.ensures.told (heads_of (plain_of b)) ∙ next-told b r.tenant c.row-row.result;
      texts = shares-read b (the_view c.self.inside) c.numbers-numbers.result.now c.created.result c.numbers-numbers.ensures.value c.self.view_is c.created.ensures.texts;
    }

pub created-requires : goal.created-requires
created-requires c =
    let r = c.args.ready.now in
    texts-read c.args.self.now (the_view c.self.inside) c.numbers-numbers.result.now r.texts c.row-row.result r.new.metadata r.new.concat c.numbers-numbers.ensures.value c.self.view_is c.requires.texts (ap (λ (row : HeadRow). row.metadata) c.row-row.ensures) (ap (λ (row : HeadRow). row.concat) c.row-row.ensures)
