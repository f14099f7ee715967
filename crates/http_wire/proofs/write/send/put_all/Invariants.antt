use Rattle.std.proofs.Common.{◌≡◌, ◌≤◌, ◌-◌, false, length, take}
use Rattle.std.specs.Io.KnownBytes.{Appends}
use Rattle.http_wire.proofs.write.send.put_all.Given as goal

-- what was done is written
abbrev pub invariant-loop-done : goal.invariant-loop-done
invariant-loop-done g l = record {
  within : l.done ≤ length l.bytes;
  written : Appends (g.W.Sink.contents l.initial.writer) (g.W.Sink.contents l.writer) (take l.done l.bytes);
  alive : g.W.Sink.has_failed l.writer ≡ false;
}

abbrev pub decreases-loop-done : goal.decreases-loop-done
decreases-loop-done g l = length l.bytes - l.done
