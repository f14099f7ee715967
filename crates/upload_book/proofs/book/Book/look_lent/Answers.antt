use Rattle.std.proofs.Common.{ap, sym, ◌∙◌}
use Rattle.std.proofs.lemmas.Result.{err_from_is_err_and}
use Rattle.upload_book.specs.Look.{look_answer, row_of}
use Rattle.upload_book.specs.contracts.book.Book.{the_view}
use Rattle.upload_book.proofs.Steps.BookSteps.{answer-plain}
use Rattle.upload_book.proofs.book.Book.look_lent.Goals as goal

pub returns-in_err-place : goal.returns-in_err-place
returns-in_err-place c =
    let p = err_from_is_err_and c.from_residual.result c.from_residual.ensures.1 in
    rw (p.1, p.2, ← c.self.view_is) (sym (answer-plain (the_view c.self.inside) c.args.name.now.tenant (look_answer c.args.name.now.id c.args.now) ∙ ap row_of c.in_err-place.ensures.refused))
