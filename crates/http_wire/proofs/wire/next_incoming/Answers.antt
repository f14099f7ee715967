use Rattle.std.proofs.Common.{ap}
use Rattle.http_wire.specs.WireState.{is_open}
use Rattle.http_wire.proofs.WireLemmas.{ReadsOn-came}
use Rattle.http_wire.proofs.wire.next_incoming.Goals as goal

pub returns-clause-reads : goal.returns-clause-reads
returns-clause-reads g c =
    let came = c.await_incoming-came in
    ReadsOn-came _ _ _ _ _ c.args.connection.now came.new.connection c.args.state.now c.state_after.result came.result (ap is_open c.requires.open) c.requires.wire c.state_after.ensures
    came.ensures.comes came.ensures.breaks came.ensures.end came.ensures.tells_end came.ensures.stops came.ensures.writer came.ensures.fault came.ensures.limits
