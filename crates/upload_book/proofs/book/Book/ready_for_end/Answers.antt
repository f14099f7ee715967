use Rattle.std.proofs.Common.{ap, ◌∙◌}
use Rattle.std.proofs.lemmas.Result.{err_from_is_err_and}
use Rattle.upload_book.specs.Book.{plain_of}
use Rattle.upload_book.specs.contracts.book.Book.{the_view}
use Rattle.upload_book.specs.PlainBook.{tenant_book}
use Rattle.upload_book.specs.TenantBook.{visible_upload}
use Rattle.upload_book.proofs.Steps.BookSteps.{part-plain}
use Rattle.upload_book.proofs.Lawful.Outcomes.{terminate_answer-refused}
use Rattle.upload_book.proofs.book.Book.ready_for_end.Goals as goal

pub returns-in_err-place-clause-refused : goal.returns-in_err-place-clause-refused
returns-in_err-place-clause-refused c =
    let p = err_from_is_err_and c.from_residual.result c.from_residual.ensures.1 in
    let b = the_view c.self.inside in
    let name = c.args.name in
    let seen = ap (λ part. visible_upload part name.id c.args.now) (part-plain b name.tenant) ∙ c.in_err-place.ensures.refused in
    rw (p.1, p.2, ← c.self.view_is) (terminate_answer-refused b.settings.numbers (tenant_book (plain_of b) name.tenant) name.id c.args.now _ seen)
