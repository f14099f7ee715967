use Rattle.std.proofs.Common.{vec_capacity, sym, ◌∙◌}
use Rattle.upload_book.specs.Book.{plain_of}
use Rattle.tus_steps.specs.PlacedReply.{reply_in}
use Rattle.tus_steps.proofs.AskedLemmas.{content-step, look-step, refused-step}
use Rattle.tus_steps.proofs.asked.answer_asked.Goals as goal

pub returns-in-Refused-clause-step : goal.returns-in-Refused-clause-step
returns-in-Refused-clause-step c =
    rw c.refuse.ensures (refused-step (plain_of c.args.book.now) c.args.request.now c.args.now c.in-Refused.refusal (sym c.in-Refused.is ∙ c.requires.found))

pub returns-in-Look-clause-step : goal.returns-in-Look-clause-step
returns-in-Look-clause-step c =
    rw (c.put_head.ensures, c.look_lent.ensures) (look-step (plain_of c.args.book.now) c.args.request.now c.args.now c.in-Look.name (sym c.in-Look.is ∙ c.requires.found))

pub returns-in-Content-clause-step : goal.returns-in-Content-clause-step
returns-in-Content-clause-step c =
    content-step (plain_of c.args.book.now) c.args.request.now c.args.now c.in-Content.name (vec_capacity c.args.begun.bytes) (reply_in c.answer_content.new.reply) (sym c.in-Content.is ∙ c.requires.found) c.answer_content.ensures
