-- How far the reading of a message has come, and what a look at the bytes that came tells.
use Rattle.std.specs.Prelude.{◌≡◌, ◌≤◌, ◌<◌, ◌+◌, ◌-◌, ◌^◌, ℕ, true, false, List, [], ◌++◌, length, min, Option, Some, None, Ok, ⊤}
use Rattle.std.specs.Prelude.{if◌then◌else◌}
use Rattle.tus_steps.specs.InPieces.{method_behind}
use Rattle.tus_steps.specs.Method.{is_patch}
use Rattle.http_wire.specs.Conversation.{continue_text}
use Rattle.http_wire.specs.HeadText.{head_limit}
use Rattle.http_wire.specs.Incoming.{is_cut_by_fault, map_incoming}
use Rattle.http_wire.specs.Layout.{IsLayoutWithin, framed_at}
use Rattle.http_wire.specs.PiecedBody.{IsPlain, IsTaken, pieced_by}
use Rattle.http_wire.specs.ReadOnWire.{ComesIn, TellsEnd}
use Rattle.http_wire.specs.inside.Ahead.{Ahead}
use Rattle.http_wire.specs.inside.HeadLayout.{BeginsHead}
use Rattle.http_wire.specs.inside.HeadSearch.{NeedsMore, Searching}
use Rattle.http_wire.specs.inside.IncomingLayout.{IsLent}
use Rattle.http_wire.specs.declared.incoming.Cut.TheVariants as cut
use Rattle.http_wire.specs.declared.incoming.Incoming.{Incoming}
use Rattle.http_wire.specs.declared.incoming.Incoming.TheVariants.{Message, CutPatch, CutOther, Refused, End}
use Rattle.http_wire.specs.declared.read.read_buffer.TheConstants.{READ_SIZE}
use Rattle.http_wire.specs.declared.read.layout.Layout.{Layout}
use Rattle.http_wire.specs.declared.read.pieces.Part.{Part}
use Rattle.http_wire.specs.declared.read.pieces.Part.TheVariants.{Middle, Last, Cut}
use Rattle.http_wire.specs.declared.read.pieces.PiecedBody.{PiecedBody}
use Rattle.http_wire.specs.declared.read.stage.Looked.{Looked}
use Rattle.http_wire.specs.declared.read.stage.Looked.TheVariants.{More, Continue, Came, Piece}
use Rattle.http_wire.specs.declared.read.stage.Stage.{Stage}
use Rattle.http_wire.specs.declared.read.stage.Stage.TheVariants.{Head, Body, Pieces}
use Rattle.http_wire.specs.declared.request_limits.RequestLimits.{RequestLimits}

-- Some bytes came, of which these are held, and this was said meanwhile. Nothing is said while the head is searched, and
-- `100 Continue` before the body, where the client waits for it. Some of a body that is taken in pieces may be gone.
abbrev pub Standing : RequestLimits → List ℕ → List ℕ → Ahead → Stage → Type 0
Standing limits bytes said a (Head s) = (said ≡ []) × Searching bytes a.held s
Standing limits bytes said a (Body p) = (said ≡ continue_text p.is_waiting) × BeginsHead limits bytes p a.held
Standing limits bytes said a (Pieces b) = (gone : List ℕ) × IsTaken limits bytes said gone b a.held

-- with these bytes, and with this said meanwhile, this came in, which the read buffer lends
abbrev pub Comes : RequestLimits → List ℕ → List ℕ → Ahead → Incoming Layout → Type 0
Comes limits bytes said a i = ComesIn limits (record { input = bytes; text = said }) a.held (map_incoming (framed_at a.lent) i)

-- what a look came to: more is needed; `100 Continue` is due, before which nothing was said; something came in; or a piece is
-- lent
abbrev pub LooksOn : RequestLimits → List ℕ → List ℕ → Ahead → Stage → Looked → Type 0
LooksOn limits bytes said a stage More = Standing limits bytes said a stage
LooksOn limits bytes said a stage Continue = (said ≡ []) × Standing limits bytes (continue_text true) a stage
LooksOn limits bytes said a stage (Came i) = Comes limits bytes said a i
LooksOn limits bytes said a stage (Piece b part) = (gone : List ℕ) × IsTaken limits bytes said gone b (a.lent ++ a.held)

-- the head of this layout is held, and there is room for its message and for a read after it
pub record HasRoom (a : Ahead) (p : Layout) : Type 0 where
  pub head : p.head_len ≤ head_limit
  pub body : p.body_len < 2 ^ 62
  pub held : p.head_len ≤ length a.held
  pub room : p.head_len + p.body_len + READ_SIZE ≤ a.room
  pub within : IsLayoutWithin p.head_len p

-- a body that is taken in pieces, where there is room for so many bytes: for its head, a piece and a read after it
pub record IsPieced (space : ℕ) (b : PiecedBody) : Type 0 where
  pub head : b.layout.head_len ≤ head_limit
  pub body : b.layout.body_len < 2 ^ 62
  pub given : b.given < b.layout.body_len
  pub some : 0 < b.piece
  pub long : b.piece < b.layout.body_len
  pub room : b.layout.head_len + b.piece + READ_SIZE ≤ space
  pub within : IsLayoutWithin b.layout.head_len b.layout
  pub plain : IsPlain b.layout
  pub whole : b.layout.created ≡ None
  pub first : b.created ≡ None → is_patch b.layout.method ≡ false → b.given ≡ 0
  pub own : is_patch b.layout.method ≡ true → b.created ≡ None

-- and its head is held
pub record HasRoomForPiece (a : Ahead) (b : PiecedBody) : Type 0 where
  pub body : IsPieced a.room b
  pub held : b.layout.head_len ≤ length a.held

-- how many bytes of the body are lent, behind those that were taken
abbrev pub lent_to : Ahead → PiecedBody → ℕ
lent_to a b = b.given + (length a.lent - b.layout.head_len)

-- what comes of a body is applied where it is cut: it is for an upload, and is no creation
abbrev pub IsApplied : PiecedBody → Type 0
IsApplied b = is_patch (method_behind b.created b.layout.method) ≡ true

-- Which piece of a body is lent. Nothing is held behind one that is not the last. One with more to come has at least the size of
-- a piece, and one behind which the body was cut has less, and is for an upload.
abbrev pub IsPart : Ahead → PiecedBody → Part → Type 0
IsPart a b Middle = (lent_to a b < b.layout.body_len) × (a.held ≡ []) × (b.layout.head_len + b.piece ≤ length a.lent)
IsPart a b Last = lent_to a b ≡ b.layout.body_len
IsPart a b (Cut cut.Ended) = (lent_to a b < b.layout.body_len) × (a.held ≡ []) × (length a.lent < b.layout.head_len + b.piece) × (a.ended ≡ true) × IsApplied b
IsPart a b (Cut cut.Fault) = (lent_to a b < b.layout.body_len) × (a.held ≡ []) × (length a.lent < b.layout.head_len + b.piece) × (a.ended ≡ false) × IsApplied b

-- a piece of a body is lent behind its head
pub record HasPiece (a : Ahead) (b : PiecedBody) (which : Part) : Type 0 where
  pub body : IsPieced a.room b
  pub lent : b.layout.head_len ≤ length a.lent
  pub part : IsPart a b which

-- a reading may stand so over this read buffer
abbrev pub Fits : Ahead → Stage → Type 0
Fits a (Head s) = (s.skipped < head_limit) × (s.seen ≤ length a.held)
Fits a (Body p) = HasRoom a p
Fits a (Pieces b) = HasRoomForPiece a b

-- it needs more bytes, and there may be some
abbrev pub Wants : Ahead → Stage → Type 0
Wants a (Head s) = NeedsMore a s
Wants a (Body p) = (length a.held < p.head_len + p.body_len) × (a.ended ≡ false)
Wants a (Pieces b) = (length a.held < b.layout.head_len + min b.piece (b.layout.body_len - b.given)) × (a.ended ≡ false)

-- A message and a cut PATCH are lent. A cut one, and a clean end, come only at the reader's end; no look tells of a failed
-- read.
pub record Arrives (a : Ahead) (i : Incoming Layout) : Type 0 where
  pub lent : IsLent a.lent i
  pub tells_end : TellsEnd a.ended (Ok (map_incoming (framed_at a.lent) i))
  pub unbroken : is_cut_by_fault (map_incoming (framed_at a.lent) i) ≡ false

-- what a look leaves: where more is needed, there is room for a read
abbrev pub Leaves : Ahead → Stage → Looked → Type 0
Leaves a stage More = Fits a stage × Wants a stage × (length a.held + READ_SIZE ≤ a.room)
Leaves a stage Continue = Fits a stage
Leaves a stage (Came i) = Arrives a i
Leaves a stage (Piece b part) = HasPiece a b part

-- the body that is taken in pieces at a stage
abbrev pub pieced : Stage → Option PiecedBody
pieced (Head s) = None
pieced (Body p) = None
pieced (Pieces b) = Some b

-- the same after a look
abbrev pub pieced_after : Stage → Looked → Option PiecedBody
pieced_after stage More = pieced stage
pieced_after stage Continue = pieced stage
pieced_after stage (Came i) = None
pieced_after stage (Piece b part) = Some b

-- a body that is taken in pieces stays the same, or is given up with nothing taken
abbrev pub StaysBody : Option PiecedBody → Option PiecedBody → Type 0
StaysBody None None = ⊤
StaysBody None (Some b) = ⊥
StaysBody (Some b) None = (b.given ≡ 0) × (0 < b.piece)
StaysBody (Some b) (Some c) = c ≡ b

-- the same, but one may begin with nothing taken, where bodies are taken in pieces of this size
abbrev pub KeepsBody : Option ℕ → Option PiecedBody → Option PiecedBody → Type 0
KeepsBody piece None None = ⊤
KeepsBody piece None (Some b) = (b.given ≡ 0) × (b.created ≡ None) × (piece ≡ Some b.piece)
KeepsBody piece (Some b) after = StaysBody (Some b) after

-- The body of a message is gathered whole, and not in pieces of this size. Once it came in, no more is lent than the message has.
abbrev pub GathersIn : Option ℕ → Ahead → Incoming Layout → Type 0
GathersIn piece a (Message p) = (pieced_by piece p ≡ None) × (p.created ≡ None) × (length a.lent ≤ p.head_len + p.body_len)
GathersIn piece a (CutPatch p why) = (pieced_by piece p ≡ None) × (p.created ≡ None) × (length a.lent ≤ p.head_len + p.body_len)
GathersIn piece a CutOther = ⊤
GathersIn piece a (Refused why framing) = ⊤
GathersIn piece a End = ⊤

-- the same of a message that is being read
abbrev pub GathersAt : Option ℕ → Stage → Type 0
GathersAt piece (Head s) = ⊤
GathersAt piece (Body p) = (pieced_by piece p ≡ None) × (p.created ≡ None)
GathersAt piece (Pieces b) = ⊤

-- the same once a look was taken
abbrev pub GathersAfter : Option ℕ → Ahead → Stage → Looked → Type 0
GathersAfter piece a stage More = GathersAt piece stage
GathersAfter piece a stage Continue = GathersAt piece stage
GathersAfter piece a stage (Came i) = GathersIn piece a i
GathersAfter piece a stage (Piece b part) = ⊤

-- how many bytes may still come; a head counts for more than any body
abbrev pub missing : Ahead → Stage → ℕ
missing a (Head s) = 2 ^ 63 + (head_limit - (s.skipped + length a.held))
missing a (Body p) = (p.head_len + p.body_len) - length a.held
missing a (Pieces b) = (b.layout.head_len + (b.layout.body_len - b.given)) - length a.held

-- a look brings the reading no further from its end, and `100 Continue` brings it nearer
abbrev pub IsNearer : ℕ → Ahead → Stage → Looked → Type 0
IsNearer before a stage More = missing a stage ≤ before
IsNearer before a stage Continue = missing a stage < before
IsNearer before a stage (Came i) = ⊤
IsNearer before a stage (Piece b part) = ⊤

-- the bytes that may still come, and the end
abbrev pub still : Ahead → Stage → ℕ
still a s = missing a s + (if a.ended then 0 else 1)
