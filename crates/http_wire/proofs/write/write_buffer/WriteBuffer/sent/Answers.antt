use Rattle.std.proofs.Common.{arith, sym, length, ◌≤◌, ◌+◌, ◌-◌, ◌<◌}
use Rattle.http_wire.specs.inside.Sending.{following}
use Rattle.http_wire.proofs.SendLemmas.{cleared-empty, drop-past}
use Rattle.http_wire.proofs.write.write_buffer.WriteBuffer.sent.Goals as goal

pub returns-clause-pending : goal.returns-clause-pending
returns-clause-pending c =
    let box = c.self.inside in
    let past : length box.page - box.page_sent ≤ c.args.count = rw (← c.as_slice.ensures) c.if-count-left.false in
    rw (← c.self.view_is, c.clear.ensures, c.after_sent.ensures.rest, c.take.ensures.value, c.as_slice.ensures) (sym (drop-past box.page_sent c.args.count box.page (following box.tail) past))

pub returns-then-count-left-clause-empty : goal.returns-then-count-left-clause-empty
returns-then-count-left-clause-empty c none =
    let box = c.self.inside in
    let left : c.args.count < length box.page - box.page_sent = rw (← c.as_slice.ensures) c.if-count-left.true in
    cleared-empty box.page (box.page_sent + c.args.count) box.tail (record {
      within = omega (arith, left);
      emptied = λ all. omega (arith, left, all);
      unsent = c.self.invariant.unsent;
    }) none
