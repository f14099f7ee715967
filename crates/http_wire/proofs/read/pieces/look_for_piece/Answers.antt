use Rattle.std.proofs.Common.{ap, length, arith}
use Rattle.http_wire.proofs.PieceLemmas.{IsTaken-cut, not-applied}
use Rattle.http_wire.proofs.read.pieces.look_for_piece.Goals as goal

pub returns-then-not-is_applied_when_cut-clause-looks : goal.returns-then-not-is_applied_when_cut-clause-looks
returns-then-not-is_applied_when_cut-clause-looks c limits bytes said gone h =
    let b = c.args.body.now in (
      b.layout.is_waiting,
      h.waits,
      IsTaken-cut limits bytes said gone b c.args.read_buffer.now.held h c.requires.body.given (omega (arith, c.if-came-left.false, ap (length {A = _}) c.held.ensures.bytes, c.requires.held))
          (not-applied b.created b.layout.method _ c.is_applied_when_cut.ensures c.if-not-is_applied_when_cut.true),
    )
