use Rattle.std.proofs.Common.{◌++◌, take}
use Rattle.std.proofs.lemmas.Result.{err_from_is_err_and}
use Rattle.http_wire.proofs.AheadLemmas.{Appends-more, OnErr-always}
use Rattle.http_wire.proofs.SendLemmas.{Writes-stopped, pending-some, sent-more}
use Rattle.http_wire.proofs.write.send.send_pending.Goals as goal

pub loop-writer-preserved : goal.loop-writer-preserved
loop-writer-preserved g c =
    let w = c.loop-writer.invariant.written in
    let pending = c.loop-writer.write_buffer.pending in
    let count = c.in_ok-send_some.field-0 in
    let some = c.in_ok-send_some.ensures in
    record {
      alive = some.takes.failed;
      written = (
        w.0 ++ take count pending,
        Appends-more _ _ _ w.0 (take count pending) w.1 some.takes.taken,
        rw some.left (sent-more c.args.write_buffer.now.pending w.0 pending count w.2),
      );
    }

pub returns-in_err-send_some-clause-writes : goal.returns-in_err-send_some-clause-writes
returns-in_err-send_some-clause-writes g c =
    let p = err_from_is_err_and c.from_residual.result c.from_residual.ensures.1 in
    let w = c.loop-writer.invariant.written in
    Writes-stopped c.from_residual.result p.0 c.in_err-send_some.field-0.0 _ _ _ _ c.args.write_buffer.now.pending w.0 c.loop-writer.write_buffer.pending c.loop-writer.write_buffer.pending p.1 p.2 w.2 w.1 c.in_err-send_some.ensures.takes

pub returns-in_err-send_some-clause-some : goal.returns-in_err-send_some-clause-some
returns-in_err-send_some-clause-some g c =
    let w = c.loop-writer.invariant.written in
    OnErr-always c.from_residual.result (pending-some c.args.write_buffer.now.pending w.0 c.loop-writer.write_buffer.pending w.2 c.loop-writer-test.ensures.some)
