use Rattle.std.proofs.Common.{sym}
use Rattle.kept_book.specs.Kept.{book_in}
use Rattle.kept_book.proofs.StepLemmas.{found-of, unkept-answer}
use Rattle.kept_book.proofs.kept.KeptBook.answer_unkept.Goals as goal

pub returns-in-Change-clause-answer : goal.returns-in-Change-clause-answer
returns-in-Change-clause-answer g c =
    let b = book_in c.args.self.now in
    let found = c.in-Change.ensures in
    let steps = found.step b c.args.now c.settings.ensures.lawful (sym c.settings.ensures.value) in
    unkept-answer b c.args.request.now c.args.now c.in-Change.asked c.refuse-refused.result _ steps (found-of c.settings.result.now b.settings c.args.request.now c.in-Change.asked found.is c.settings.ensures.value) c.put_change.ensures
    c.refuse-refused.ensures.refused
