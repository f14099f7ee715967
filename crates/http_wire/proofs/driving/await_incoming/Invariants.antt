use Rattle.std.proofs.Common.{◌≡◌, ◌≤◌, ◌++◌, ℕ, List, length, true, false, None}
use Rattle.std.specs.Io.KnownBytes.{Appends, Consumes}
use Rattle.http_wire.specs.RequestLimits.{AreWithin}
use Rattle.http_wire.specs.OnConnection.{Stands, is_looking, left}
use Rattle.http_wire.specs.ReadOnWire.{read_limit}
use Rattle.http_wire.specs.inside.Ahead.{SeesEnd, StopsAtEnd}
use Rattle.http_wire.specs.inside.Sending.{empty_write_buffer}
use Rattle.http_wire.proofs.driving.await_incoming.Given as goal

-- the connection stands so far in all bytes that were read, with all that was written, and nothing is left to be sent
abbrev pub invariant-loop-connection : goal.invariant-loop-connection
invariant-loop-connection g l = record {
  reader : g.R.Source.has_failed l.reader ≡ false;
  writer : g.W.Sink.has_failed l.writer ≡ false;
  looks : is_looking l.connection.phase ≡ true;
  sent : l.connection.write_buffer ≡ empty_write_buffer;
  limits : l.connection.limits ≡ l.fn.connection.limits;
  gathers : l.connection.piece ≡ None;
  piece : l.connection.piece ≡ l.fn.connection.piece;
  stands : (got said : List ℕ) × Consumes (g.R.Source.remaining l.fn.reader) (g.R.Source.remaining l.reader) got
      × Appends (g.W.Sink.contents l.fn.writer) (g.W.Sink.contents l.writer) said × Stands (l.fn.connection.read_buffer.held ++ got) said l.connection
      × ((most : ℕ) → AreWithin l.fn.connection.limits most → length got ≤ read_limit most);
  stops : StopsAtEnd l.fn.reader l.reader l.fn.connection.read_buffer l.connection.read_buffer;
  end : SeesEnd (g.R.Source.remaining l.fn.reader) l.fn.connection.read_buffer → SeesEnd (g.R.Source.remaining l.reader) l.connection.read_buffer;
}

-- a read gives bytes, or the end, and `100 Continue` is due once
abbrev pub decreases-loop-connection : goal.decreases-loop-connection
decreases-loop-connection g l = left l.connection
