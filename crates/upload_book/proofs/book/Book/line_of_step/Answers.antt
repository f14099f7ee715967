use Rattle.upload_book.specs.Book.{plain_of}
use Rattle.upload_book.specs.Ready.{step_change, step_moment}
use Rattle.upload_book.proofs.Heads.LineLemmas.{line-is}
use Rattle.upload_book.proofs.book.Book.line_of_step.Goals as goal

pub returns : goal.returns
returns c =
    let step = c.args.step.now in
    line-is (plain_of c.args.self.now) (step_change step) (step_moment step) c.head_change.result c.accounts_after.result c.head_change.ensures c.accounts_after.ensures
