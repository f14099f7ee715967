use Rattle.std.proofs.Common.{ap, subst, ◌∙◌}
use Rattle.upload_book.specs.Book.{IsBook, plain_of}
use Rattle.upload_book.specs.contracts.book.Book.{the_view}
use Rattle.upload_book.specs.declared.board_line.HeadChange.TheVariants.{Put}
use Rattle.upload_book.specs.declared.head_row.HeadRow.{HeadRow}
use Rattle.upload_book.specs.Heads.{heads_of}
use Rattle.upload_book.proofs.Heads.LineBack.{joined-head, joined-noted}
use Rattle.upload_book.proofs.Heads.LineSteps.{shares-read, texts-read}
use Rattle.upload_book.proofs.book.Book.note_of_joined.Goals as goal

pub returns : goal.returns
returns c now =
    let b = c.args.self.now in
    let r = c.args.ready.now in
    let kept = subst IsBook c.self.view_is c.self.invariant in
    record {
      head = Put (record { tenant = r.tenant; id = r.upload.id }) c.final_row-row.result;
      is = joined-head b r kept c.requires now c.final_row-row.result c.final_row-row.ensures;
      told = c.created.ensures.told (heads_of (plain_of b)) ∙ joined-noted b r kept c.requires c.final_row-row.result;
      texts = shares-read b (the_view c.self.inside) c.numbers-numbers.result.now c.created.result c.numbers-numbers.ensures.value c.self.view_is c.created.ensures.texts;
    }

pub created-requires : goal.created-requires
created-requires c =
    let r = c.args.ready.now in
    let is = c.final_row-row.ensures in
    texts-read c.args.self.now (the_view c.self.inside) c.numbers-numbers.result.now r.texts c.final_row-row.result r.upload.metadata r.upload.concat c.numbers-numbers.ensures.value c.self.view_is c.requires.texts (ap (λ (row : HeadRow). row.metadata) is) (ap (λ (row : HeadRow). row.concat) is)
