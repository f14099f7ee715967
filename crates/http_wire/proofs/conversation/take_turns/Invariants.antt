use Rattle.std.proofs.Common.{◌≡◌, ℕ, List, take, false}
use Rattle.std.specs.Io.KnownBytes.{Appends, Consumes}
use Rattle.http_wire.specs.inside.Ahead.{SeesEnd}
use Rattle.http_wire.specs.inside.Driving.{IsBetween}
use Rattle.http_wire.proofs.ConversationLemmas.{Reached}
use Rattle.http_wire.proofs.conversation.take_turns.Given as goal

-- nothing failed yet, and a turn was taken at each moment so far
abbrev pub invariant-loop-moment : goal.invariant-loop-moment
invariant-loop-moment g l = record {
  reader : g.R.Source.has_failed l.reader ≡ false;
  writer : g.W.Sink.has_failed l.writer ≡ false;
  reached : (got text : List ℕ) × Consumes (g.R.Source.remaining l.fn.reader) (g.R.Source.remaining l.reader) got × Appends (g.W.Sink.contents l.fn.writer) (g.W.Sink.contents l.writer) text × Reached g.A.Answer.steps l.fn.connection.limits (take l.moment-index l.moments) (record { input = got; text = text; before = l.fn.answerer; after = l.answerer }) l.connection.read_buffer.held;
  end : SeesEnd (g.R.Source.remaining l.reader) l.connection.read_buffer;
  between : IsBetween l.connection;
  limits : l.connection.limits ≡ l.fn.connection.limits;
}
