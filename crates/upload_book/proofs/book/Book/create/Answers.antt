use Rattle.upload_book.specs.Book.{plain_of}
use Rattle.upload_book.proofs.Steps.CreateSteps.{after-empty, empty-answer}
use Rattle.upload_book.proofs.book.Book.create.Goals as goal

pub returns-clause-answer : goal.returns-clause-answer
returns-clause-answer c =
    empty-answer (plain_of c.args.self.now) c.args.tenant c.args.new c.args.now c.settings-lawful.ensures.lawful c.create_with.result (rw c.none.ensures at c.create_with.ensures.answer)

pub returns-clause-accepted : goal.returns-clause-accepted
returns-clause-accepted c =
    after-empty (plain_of c.args.self.now) c.args.tenant c.args.new c.args.now c.settings-lawful.ensures.lawful c.create_with.result (plain_of c.create_with.new.self) (rw c.none.ensures at c.create_with.ensures.accepted)
