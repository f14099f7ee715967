use Rattle.std.proofs.Common.{◌≡◌, ◌++◌, ℕ, List, false, length}
use Rattle.std.specs.Io.KnownBytes.{Appends}
use Rattle.http_wire.proofs.write.send.send_pending.Given as goal

-- what is no longer pending was written
abbrev pub invariant-loop-writer : goal.invariant-loop-writer
invariant-loop-writer g l = record {
  alive : g.W.Sink.has_failed l.writer ≡ false;
  written : (text : List ℕ) × Appends (g.W.Sink.contents l.fn.writer) (g.W.Sink.contents l.writer) text × (l.fn.write_buffer.pending ≡ text ++ l.write_buffer.pending);
}

-- each write takes some bytes
abbrev pub decreases-loop-writer : goal.decreases-loop-writer
decreases-loop-writer g l = length l.write_buffer.pending
