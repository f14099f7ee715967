use Rattle.std.proofs.Common.{subst, arith}
use Rattle.tus_shared.specs.Answers.{AnswersTurn}
use Rattle.tus_shared.specs.Turn.{Turn}
use Rattle.tus_shared.proofs.BatchLemmas.{AnswersBatch-next}
use Rattle.tus_shared.proofs.desk.Desk.answer_all.Goals as goal

pub loop-number-preserved : goal.loop-number-preserved
loop-number-preserved g c =
    let i = c.loop-number.invariant in (
      omega (arith, c.push_reserved.ensures.len, i.0),
      omega (arith, c.push_reserved.ensures.capacity, i.1),
      AnswersBatch-next g.C.Charges.settings c.args.batch.now c.loop-number.replies.items c.push_reserved.new.self.items c.loop-number.number
          c.index-batch-number.result c.answer-reply.result c.args.self.now c.loop-number.self c.answer-reply.new.self
          c.loop-number-test.true c.index-batch-number.is c.push_reserved.ensures.items i.2
          (subst (λ (turn : Turn). AnswersTurn g.C.Charges.settings turn.request turn.now c.answer-reply.result c.loop-number.self c.answer-reply.new.self) c.turn.view_is c.answer-reply.ensures),
    )
