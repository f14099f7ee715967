-- A connection that is driven over a reader and a writer that wait.
use Rattle.std.specs.Prelude.{◌≡◌, Bool, List, ℕ, Some, None, Ok}
use Rattle.http_wire.specs.Incoming.{FramedRequest, is_cut_by_fault}
use Rattle.http_wire.specs.OnConnection.{OnConnection, at_start, owed_in, passed_over}
use Rattle.http_wire.specs.ReadOnWire.{ComesIn, TellsEnd}
use Rattle.http_wire.specs.declared.incoming.Incoming.{Incoming}
use Rattle.http_wire.specs.inside.Sending.{empty_write_buffer}

-- The next message begins, unless one came in that is left as it is; and nothing is to be sent. Each body is gathered.
pub record IsBetween (c : OnConnection) : Type 0 where
  pub phase : passed_over c.phase ≡ at_start
  pub gathers : c.piece ≡ None
  pub write_buffer : c.write_buffer ≡ empty_write_buffer

-- These bytes came and this was written, and what they begin with is owed an answer; the reader failed only where that cut it.
pub record CameIn (bytes text : List ℕ) (broke : Bool) (c : OnConnection) : Type 0 where
  pub incoming : Incoming FramedRequest
  pub owed : owed_in c.phase ≡ Some incoming
  pub comes : ComesIn c.limits (record { input = bytes; text = text }) c.read_buffer.held incoming
  pub tells_end : TellsEnd c.read_buffer.ended (Ok incoming)
  pub why : broke ≡ is_cut_by_fault incoming
