use Rattle.std.proofs.Common.{arith}
use Rattle.upload_book.specs.Book.{plain_of}
use Rattle.tus_steps.proofs.HistoryLemmas.{history-turn}
use Rattle.tus_steps.proofs.runs.run.Goals as goal

pub loop-request-preserved : goal.loop-request-preserved
loop-request-preserved c =
    let so_far = c.loop-request.invariant in
    record {
      count = omega (arith, c.push_reserved.ensures.len, so_far.count);
      room = omega (arith, c.push_reserved.ensures.capacity, so_far.room);
      history = history-turn (plain_of c.args.book.now) c.args.turns.now c.loop-request.request-index c.loop-request-item.result
          c.loop-request.replies.items (plain_of c.loop-request.book) c.answer.result (plain_of c.answer.new.book) c.push_reserved.new.self.items
          c.loop-request-test.true c.loop-request-item.is c.push_reserved.ensures.items so_far.history c.answer.ensures.step;
    }
