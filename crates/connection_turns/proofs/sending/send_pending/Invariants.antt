use Rattle.std.proofs.Common.{◌≡◌}
use Rattle.connection_turns.specs.Turn.{SendsOn}
use Rattle.connection_turns.proofs.sending.send_pending.Given as goal

-- some of what was pending was sent so far
abbrev pub invariant-loop : goal.invariant-loop
invariant-loop g l = record {
  sends : SendsOn l.fn.connection l.connection (g.W.Write.contents l.fn.writer) (g.W.Write.contents l.writer);
  limits : l.connection.limits ≡ l.fn.connection.limits;
  piece : l.connection.piece ≡ l.fn.connection.piece;
}
