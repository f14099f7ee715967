-- What holds of every connection at each phase.
use Rattle.std.specs.Prelude.{⊤, ◌≡◌, ◌≤◌, ◌<◌, ◌+◌, ◌-◌, ℕ, length, min, Option, Some, Ok, IfSome}
use Rattle.http_wire.specs.RequestLimits.{AreSmall}
use Rattle.http_wire.specs.Incoming.{map_incoming}
use Rattle.http_wire.specs.Layout.{framed_at}
use Rattle.http_wire.specs.ReadOnWire.{TellsEnd}
use Rattle.http_wire.specs.declared.phase.Phase.{Phase}
use Rattle.http_wire.specs.declared.phase.Phase.TheVariants.{Looking, Waiting, Owing, Piece, Over, Stopped}
use Rattle.http_wire.specs.declared.read.read_buffer.TheConstants.{READ_SIZE}
use Rattle.http_wire.specs.declared.read.layout.Layout.{Layout}
use Rattle.http_wire.specs.declared.read.stage.Stage.TheVariants.{Head, Body, Pieces}
use Rattle.http_wire.specs.inside.Ahead.{Ahead}
use Rattle.http_wire.specs.inside.IncomingLayout.{IsLent}
use Rattle.http_wire.specs.OnConnection.{body_in}
use Rattle.http_wire.specs.inside.Standing.{Fits, GathersAt, GathersIn, HasPiece, Wants}
use Rattle.http_wire.specs.declared.request_limits.RequestLimits.{RequestLimits}

-- the same with what f gives of the message that came in
abbrev pub map_phase : {M N : Type 0} → (M → N) → Phase M → Phase N
map_phase f (Looking s) = Looking s
map_phase f (Waiting s) = Waiting s
map_phase f (Owing i) = Owing (map_incoming f i)
map_phase f (Piece b part) = Piece b part
map_phase f (Over r) = Over r
map_phase f (Stopped r) = Stopped r

-- A reading may stand so over this read buffer. Where it waits, there is room for a read. A message that came in is lent, and one
-- that was cut by the end came at the end.
abbrev pub IsPhase : Ahead → Phase Layout → Type 0
IsPhase a (Looking s) = Fits a s
IsPhase a (Waiting s) = Fits a s × Wants a s × (length a.held + READ_SIZE ≤ a.room)
IsPhase a (Owing i) = IsLent a.lent i × TellsEnd a.ended (Ok (map_incoming (framed_at a.lent) i))
IsPhase a (Piece b part) = HasPiece a b part
IsPhase a (Over r) = ⊤
IsPhase a (Stopped r) = ⊤

-- a body that is gathered whole is not one that is taken in pieces of this size
abbrev pub Gathers : Option ℕ → Ahead → Phase Layout → Type 0
Gathers piece a (Looking s) = GathersAt piece s
Gathers piece a (Waiting s) = GathersAt piece s
Gathers piece a (Owing i) = GathersIn piece a i
Gathers piece a (Piece b part) = ⊤
Gathers piece a (Over r) = ⊤
Gathers piece a (Stopped r) = ⊤

-- how many bytes are missing of a body that is waited for, or of its next piece
abbrev pub lacking : Ahead → Phase Layout → ℕ
lacking a (Looking s) = 0
lacking a (Waiting (Head s)) = 0
lacking a (Waiting (Body p)) = (p.head_len + p.body_len) - length a.held
lacking a (Waiting (Pieces b)) = (b.layout.head_len + min b.piece (b.layout.body_len - b.given)) - length a.held
lacking a (Owing i) = 0
lacking a (Piece b part) = 0
lacking a (Over r) = 0
lacking a (Stopped r) = 0

-- A connection whose bodies have at most these lengths, and are taken in pieces of this size, where there are pieces.
pub record IsConnection (a : Ahead) (p : Phase Layout) (limits : RequestLimits) (piece : Option ℕ) : Type 0 where
  pub size : AreSmall limits
  pub some : IfSome piece (λ n. 0 < n)
  pub phase : IsPhase a p
  pub body : IfSome (body_in p) (λ b. piece ≡ Some b.piece)
  pub gathered : Gathers piece a p
