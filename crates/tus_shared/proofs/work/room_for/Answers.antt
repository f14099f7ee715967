use Rattle.std.proofs.Common.{arith}
use Rattle.tus_shared.proofs.ZipLemmas.{AllZip-next}
use Rattle.tus_shared.proofs.work.room_for.Goals as goal

pub loop-batch-preserved : goal.loop-batch-preserved
loop-batch-preserved c =
    let i = c.loop-batch.invariant in (
      omega (arith, c.push_reserved.ensures.len, i.0),
      omega (arith, c.push_reserved.ensures.capacity, i.1),
      AllZip-next c.args.batches.now c.loop-batch.replies.items c.push_reserved.new.self.items _ c.loop-batch.batch-index c.batch-item.result _
          c.loop-batch-test.true c.batch-item.is c.push_reserved.ensures.items i.2
          (c.in_ok-with_capacity.ensures.items, c.in_ok-with_capacity.ensures.capacity),
    )
