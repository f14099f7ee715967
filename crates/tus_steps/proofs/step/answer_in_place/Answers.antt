use Rattle.upload_book.specs.Book.{plain_of}
use Rattle.tus_steps.proofs.AskedLemmas.{made-settings, made-step}
use Rattle.tus_steps.proofs.step.answer_in_place.Goals as goal
use Rattle.std.proofs.Common.{ap, sym}
use Rattle.std.proofs.lemmas.Result.{on_err_weaker}

pub returns-in-Change-clause-step : goal.returns-in-Change-clause-step
returns-in-Change-clause-step c =
    let b = plain_of c.args.book.now in
    let made = c.make-outcome.ensures in
    let steps = c.in-Change.ensures.step b c.args.now c.settings.ensures.lawful (sym c.settings.ensures.value) in
    rw c.put_change.ensures (made-step b c.args.request.now c.args.now c.in-Change.asked c.make-outcome.result (plain_of c.make-outcome.new.book) steps made.answer made.made made.refused (on_err_weaker c.make-outcome.result (ap plain_of) made.unchanged))

pub returns-in-Change-clause-settings : goal.returns-in-Change-clause-settings
returns-in-Change-clause-settings c =
    let made = c.make-outcome.ensures in
    made-settings (plain_of c.args.book.now) c.in-Change.asked.change c.args.now c.make-outcome.result (plain_of c.make-outcome.new.book) made.made (on_err_weaker c.make-outcome.result (ap plain_of) made.unchanged)
