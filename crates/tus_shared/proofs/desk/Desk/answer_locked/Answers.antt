use Rattle.tus_steps.specs.PlacedReply.{reply_in}
use Rattle.tus_shared.proofs.HeadLemmas.{looks-again, sees-first}
use Rattle.tus_shared.proofs.desk.Desk.answer_locked.Goals as goal

pub returns-clause-answers : goal.returns-clause-answers
returns-clause-answers g c =
    let ready = c.read_ahead-begun.new.self in
    let looks = looks-again c.args.self.now c.work_ahead-room.new.self ready c.work_ahead-room.ensures.desk c.read_ahead-begun.ensures.desk in
    sees-first g.C.Charges.settings c.args.request.now c.args.now (reply_in c.step_locked.new.reply) c.args.self.now ready c.step_locked.new.self looks c.step_locked.ensures.answers
