-- What calls do to a connection.
use Rattle.std.specs.Prelude.{◌≡◌, ◌↔◌, ◌++◌, ℕ, true, List, [], take, drop, Ok, Err}
use Rattle.http_wire.specs.Incoming.{FramedRequest, is_cut_by_fault}
use Rattle.http_wire.specs.OnConnection.{OnConnection, Stands, StandsIn, is_looking}
use Rattle.http_wire.specs.History.{HasHistory, History, gave, took}
use Rattle.http_wire.specs.ReadOnWire.{BreaksMessage, ComesIn}
use Rattle.http_wire.specs.declared.fault.WireFault.TheVariants.{Read}
use Rattle.http_wire.specs.declared.phase.Phase.{Phase}
use Rattle.http_wire.specs.declared.phase.Phase.TheVariants.{Looking, Waiting, Owing, Piece, Over, Stopped}
use Rattle.http_wire.specs.declared.incoming.Cut.TheVariants.{Fault}
use Rattle.http_wire.specs.declared.read.pieces.Part.TheVariants.{Cut}
use Rattle.http_wire.specs.inside.Ahead.{Ahead}
use Rattle.http_wire.specs.inside.Sending.{empty_write_buffer}
use Rattle.http_wire.specs.declared.request_limits.RequestLimits.{RequestLimits}

-- one read brought these bytes, or the end of the input where there are none
pub record Takes (got : List ℕ) (old new : OnConnection) : Type 0 where
  pub stands : (bytes said : List ℕ) → Stands bytes said old → Stands (bytes ++ got) said new
  pub held : new.read_buffer.held ≡ old.read_buffer.held ++ got
  pub ended : (got ≡ []) ↔ (new.read_buffer.ended ≡ true)
  pub looks : is_looking new.phase ≡ true
  pub history : (p : History) → HasHistory p old → HasHistory (took p got) new
  pub write_buffer : new.write_buffer ≡ old.write_buffer
  pub limits : new.limits ≡ old.limits
  pub piece : new.piece ≡ old.piece

-- a read failed: a PATCH that is applied when it is cut, or a creation behind its first piece, is owed its step, and else the
-- conversation is over
abbrev pub BreaksTo : RequestLimits → List ℕ → List ℕ → Ahead → Phase FramedRequest → Type 0
BreaksTo limits bytes said a (Looking s) = ⊥
BreaksTo limits bytes said a (Waiting s) = ⊥
BreaksTo limits bytes said a (Owing i) = ComesIn limits (record { input = bytes; text = said }) a.held i × (is_cut_by_fault i ≡ true)
BreaksTo limits bytes said a (Piece b part) = StandsIn limits bytes said a (Piece b part) × (part ≡ Cut Fault)
BreaksTo limits bytes said a (Over (Ok e)) = ⊥
BreaksTo limits bytes said a (Over (Err fault)) = BreaksMessage limits (record { input = bytes; text = said }) fault × (fault ≡ Read)
BreaksTo limits bytes said a (Stopped r) = ⊥

-- this text was put behind what is pending, and nothing else changed
pub record Puts (text : List ℕ) (old new : OnConnection) : Type 0 where
  pub pending : new.write_buffer.pending ≡ old.write_buffer.pending ++ text
  pub same : new ≡ record old { write_buffer = new.write_buffer }

-- so many of the bytes that were pending were sent, and nothing else changed
pub record Sends (n : ℕ) (old new : OnConnection) : Type 0 where
  pub pending : new.write_buffer.pending ≡ drop n old.write_buffer.pending
  pub empty : new.write_buffer.pending ≡ [] → new.write_buffer ≡ empty_write_buffer
  pub room : old.write_buffer.has_room ≡ true → new.write_buffer.has_room ≡ true
  pub history : (p : History) → HasHistory p old → HasHistory (gave p (take n old.write_buffer.pending)) new
  pub same : new ≡ record old { write_buffer = new.write_buffer }
