-- How a wire is seen by its contracts, and what holds of every wire.
use Rattle.std.specs.Prelude.{◌≡◌, ◌<◌, ◌^◌, true, false, Option, Some, None, Result, Ok, Err}
use Rattle.std.specs.Io.KnownBytes.{IsAtEnd}
use Rattle.http_wire.specs.OnWire.{OnWire}
use Rattle.http_wire.specs.Streams.{Streams}
use Rattle.http_wire.specs.WireState.{is_open, is_alive}
use Rattle.http_wire.specs.declared.wire.State.{State}
use Rattle.http_wire.specs.Incoming.{FramedRequest}
use Rattle.http_wire.specs.OnConnection.{OnConnection, at_start, owed_in, passed_over}
use Rattle.http_wire.specs.declared.fault.WireFault.{WireFault}
use Rattle.http_wire.specs.declared.incoming.Incoming.{Incoming}
use Rattle.http_wire.specs.declared.incoming.Incoming.TheVariants.{End}
use Rattle.http_wire.specs.inside.Sending.{empty_write_buffer}

module _ {R W : Type 0} where
  -- the wire of this reader and this writer, a connection, and a state
  abbrev pub wire_of : R → W → OnConnection → State → OnWire R W
  wire_of reader writer c state = record {
    reader = reader;
    writer = writer;
    held = c.read_buffer.held;
    ended = c.read_buffer.ended;
    max_size = c.limits.other;
    reads = is_open state;
    writes = is_alive state;
  }

  -- What holds of every wire: while it reads, it also writes, no read has failed, and the reader's end was seen only there;
  -- while it writes, no write has failed; and bodies have less than two gigabytes.
  pub record IsSound (s : Streams R W) (w : OnWire R W) : Type 0 where
    pub size : w.max_size < 2 ^ 62
    pub both : w.reads ≡ true → w.writes ≡ true
    pub reader_alive : w.reads ≡ true → s.read_failed w.reader ≡ false
    pub writer_alive : w.writes ≡ true → s.write_failed w.writer ≡ false
    pub end : w.reads ≡ true → w.ended ≡ true → IsAtEnd (s.remaining w.reader)

  -- The same of its parts. Both limits of bodies are alike, no ranges are served, each body is gathered, and nothing is left to be sent. While it
  -- reads, the next message begins, unless one that came in is left as it is.
  pub record IsWire (s : Streams R W) (reader : R) (writer : W) (c : OnConnection) (state : State) : Type 0 where
    pub sound : IsSound s (wire_of reader writer c state)
    pub limits : c.limits.plain ≡ c.limits.other
    pub ranges : c.limits.ranges ≡ false
    pub gathers : c.piece ≡ None
    pub sent : c.write_buffer ≡ empty_write_buffer
    pub starts : is_open state ≡ true → passed_over c.phase ≡ at_start

-- what came in, or the end where nothing did
abbrev pub or_end : Option (Incoming FramedRequest) → Incoming FramedRequest
or_end (Some i) = i
or_end None = End

-- what the reading of the next message gave, which the connection owes an answer
abbrev pub read_by : Result Unit WireFault → OnConnection → Result (Incoming FramedRequest) WireFault
read_by (Ok done) c = Ok (or_end (owed_in c.phase))
read_by (Err fault) c = Err fault
