use Rattle.std.proofs.Common.{arith}
use Rattle.http_wire.proofs.AheadLemmas.{Appends-step}
use Rattle.http_wire.proofs.write.send.put_all.Goals as goal

pub loop-done-preserved : goal.loop-done-preserved
loop-done-preserved g c =
    let some = c.in_ok-done.ensures in
    record {
      within = omega (arith, some.count.1, c.split_at.ensures.back_len);
      written = Appends-step _ _ _ c.args.bytes.now c.loop-done.done c.in_ok-done.field-0 c.loop-done.invariant.written (rw (← c.split_at.ensures.back) some.taken);
      alive = some.failed;
    }
