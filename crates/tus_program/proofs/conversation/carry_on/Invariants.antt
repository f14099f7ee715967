use Rattle.std.proofs.Common.{◌≡◌, ◌≤◌, ◌-◌, false}
use Rattle.connection_turns.specs.Turn.{CarriesOn, on_turn}
use Rattle.tus_program.proofs.conversation.carry_on.Given as goal

-- the connection was carried on so far, and no stream has failed
abbrev pub invariant-loop : goal.invariant-loop
invariant-loop g l = record {
  carries : CarriesOn g.A.Answer.steps g.K.Clock.tells l.fn.connection.piece (4096 - l.left)
      (on_turn l.fn.connection l.fn.answerer l.fn.clock (g.R.Source.remaining l.fn.reader) (g.W.Sink.contents l.fn.writer))
      (on_turn l.connection l.answerer l.clock (g.R.Source.remaining l.reader) (g.W.Sink.contents l.writer));
  left : l.left ≤ 4096;
  reader : g.R.Source.has_failed l.reader ≡ false;
  writer : g.W.Sink.has_failed l.writer ≡ false;
  limits : l.connection.limits ≡ l.fn.connection.limits;
  piece : l.connection.piece ≡ l.fn.connection.piece;
}
