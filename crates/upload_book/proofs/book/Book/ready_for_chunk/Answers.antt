use Rattle.std.proofs.Common.{inl, refl, sym, ◌∙◌}
use Rattle.upload_book.specs.Append.{append_answer}
use Rattle.upload_book.specs.contracts.book.Book.{the_view}
use Rattle.upload_book.proofs.Steps.BookSteps.{answer-plain}
use Rattle.upload_book.proofs.book.Book.ready_for_chunk.Goals as goal

-- a PATCH of what is not visible is refused
pub returns-in-Err-clause-refused : goal.returns-in-Err-clause-refused
returns-in-Err-clause-refused c =
    let b = the_view c.self.inside in
    let name = c.args.name in
    inl (rw (← c.self.view_is) (sym (answer-plain b name.tenant (append_answer name.id c.args.chunk c.args.now b.charged) ∙ rw c.in-Err.ensures.refused refl)))
