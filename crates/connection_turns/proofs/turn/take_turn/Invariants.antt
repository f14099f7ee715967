use Rattle.std.proofs.Common.{◌≡◌, ◌≤◌, ◌-◌, true}
use Rattle.connection_turns.specs.Turn.{CarriesOn, on_turn}
use Rattle.connection_turns.proofs.turn.take_turn.Given as goal

-- the connection was carried on so far
abbrev pub invariant-loop : goal.invariant-loop
invariant-loop g l = record {
  carries : CarriesOn g.A.Answer.steps g.K.Clock.tells l.fn.connection.piece (l.fn.share.messages - l.left)
      (on_turn l.fn.connection l.fn.answerer l.fn.clock (g.R.Read.remaining l.fn.streams.reader) (g.W.Write.contents l.fn.streams.writer))
      (on_turn l.connection l.answerer l.clock (g.R.Read.remaining l.streams.reader) (g.W.Write.contents l.streams.writer));
  held : l.holds_back ≡ true → g.W.Write.contents l.streams.writer ≡ g.W.Write.contents l.fn.streams.writer;
  left : l.left ≤ l.fn.share.messages;
  limits : l.connection.limits ≡ l.fn.connection.limits;
  piece : l.connection.piece ≡ l.fn.connection.piece;
}
