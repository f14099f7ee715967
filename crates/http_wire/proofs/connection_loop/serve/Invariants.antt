use Rattle.std.proofs.Common.{◌≡◌, ℕ, List, ◌++◌, length, true}
use Rattle.std.specs.Io.KnownBytes.{Appends, Consumes}
use Rattle.http_wire.specs.RequestLimits.{alike}
use Rattle.http_wire.specs.Clock.{Tells}
use Rattle.http_wire.proofs.ConversationLemmas.{Reached}
use Rattle.http_wire.proofs.connection_loop.serve.Given as goal

-- the wire still reads, and so many turns were taken, each at the moment that the clock told for it
abbrev pub invariant-loop-taken : goal.invariant-loop-taken
invariant-loop-taken g l = record {
  reads : l.wire.reads ≡ true;
  size : l.wire.max_size ≡ l.fn.wire.max_size;
  reached : (moments : List ℕ) × (length moments ≡ l.taken) × Tells g.C.Clock.tells l.fn.clock moments l.clock × (got text : List ℕ) × Consumes (g.R.Source.remaining l.fn.wire.reader) (g.R.Source.remaining l.wire.reader) got × Appends (g.W.Sink.contents l.fn.wire.writer) (g.W.Sink.contents l.wire.writer) text × Reached g.A.Answer.steps (alike l.fn.wire.max_size) moments (record { input = l.fn.wire.held ++ got; text = text; before = l.fn.answerer; after = l.answerer }) l.wire.held;
}
