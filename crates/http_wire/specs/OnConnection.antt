-- A connection as its callers see it: what it holds of what was read, how far it has come, and what is to be sent.
use Rattle.std.specs.Prelude.{◌≡◌, ℕ, Bool, true, false, List, [], ◌∷◌, ◌++◌, ◌+◌, ◌-◌, ◌⊎◌, length, Option, Some, None, Result, Ok, Err}
use Rattle.std.specs.Prelude.{if◌then◌else◌}
use Rattle.http_wire.specs.NextMessage.{NextMessage, IsNextMessage}
use Rattle.http_wire.specs.Incoming.{FramedRequest}
use Rattle.http_wire.specs.Layout.{framed_at}
use Rattle.http_wire.specs.PiecedBody.{IsTaken, piece_in}
use Rattle.http_wire.specs.ReadOnWire.{ComesIn, IsCut}
use Rattle.http_wire.specs.declared.connection.Wants.{Wants}
use Rattle.http_wire.specs.declared.connection.Wants.TheVariants as wants
use Rattle.http_wire.specs.declared.conversation.Ended.{Ended}
use Rattle.http_wire.specs.declared.conversation.Ended.TheVariants as ended
use Rattle.http_wire.specs.declared.fault.WireFault.{WireFault}
use Rattle.http_wire.specs.declared.incoming.Incoming.{Incoming}
use Rattle.http_wire.specs.declared.incoming.Incoming.TheVariants.{Message, CutPatch, CutOther, Refused, End}
use Rattle.http_wire.specs.declared.phase.Phase.{Phase}
use Rattle.http_wire.specs.declared.phase.Phase.TheVariants.{Looking, Waiting, Owing, Piece, Over, Stopped}
use Rattle.http_wire.specs.declared.read.pieces.PiecedBody.{PiecedBody}
use Rattle.http_wire.specs.declared.read.stage.Stage.TheVariants.{Body, Head, Pieces}
use Rattle.http_wire.specs.inside.Ahead.{Ahead}
use Rattle.http_wire.specs.inside.HeadSearch.{search_start}
use Rattle.http_wire.specs.inside.Sending.{OnOutbox, empty_write_buffer}
use Rattle.http_wire.specs.inside.Standing.{Standing, pieced, still}
use Rattle.http_wire.specs.inside.TurnFinish.{ended_after, turn_cut}
use Rattle.http_wire.specs.declared.request_limits.RequestLimits.{RequestLimits}

-- What was read and belongs to no message that was answered, how far the connection has come, and what is to be sent. `limits`
-- has the most bytes of a body. `piece` is how many bytes a piece has, where bodies are taken in pieces.
pub record OnConnection : Type 0 where
  pub read_buffer : Ahead
  pub phase : Phase FramedRequest
  pub write_buffer : OnOutbox
  pub limits : RequestLimits
  pub piece : Option ℕ

-- this, unless something is to be sent first
abbrev pub unless_pending : List ℕ → Wants → Wants
unless_pending [] w = w
unless_pending (b ∷ rest) w = wants.Write

-- What it wants, once it was asked and has looked: to write what is pending before it reads more, so that it holds no more than
-- it sends; and an answer to what came in, unless there is no room for one. Where it may look on, there is no room for what it
-- may find, or `100 Continue` was put, and it writes first.
abbrev pub wanted_in : OnOutbox → Phase FramedRequest → Wants
wanted_in o (Looking s) = wants.Write
wanted_in o (Waiting s) = unless_pending o.pending wants.Read
wanted_in o (Owing i) = if o.has_room then wants.Answer else wants.Write
wanted_in o (Piece b part) = if o.has_room then wants.Answer else wants.Write
wanted_in o (Over r) = unless_pending o.pending wants.Nothing
wanted_in o (Stopped r) = unless_pending o.pending wants.Nothing

abbrev pub wanted : OnConnection → Wants
wanted c = wanted_in c.write_buffer c.phase

-- the start of a message
abbrev pub at_start : {M : Type 0} → Phase M
at_start = Looking (Head search_start)

-- nothing was read or is to be sent
pub record IsFresh (c : OnConnection) : Type 0 where
  pub held : c.read_buffer.held ≡ []
  pub unended : c.read_buffer.ended ≡ false
  pub phase : c.phase ≡ at_start
  pub write_buffer : c.write_buffer ≡ empty_write_buffer

-- all that was read was answered, and all answers were sent
pub record IsIdle (c : OnConnection) : Type 0 where
  pub held : c.read_buffer.held ≡ []
  pub unended : c.read_buffer.ended ≡ false
  pub phase : (c.phase ≡ at_start) ⊎ (c.phase ≡ Waiting (Head search_start))
  pub write_buffer : c.write_buffer ≡ empty_write_buffer

-- how a turn ends once what came in was answered
abbrev pub turn_end : Incoming FramedRequest → Result (Option Ended) WireFault
turn_end (Message m) = Ok (ended_after m.framing.close)
turn_end (CutPatch m why) = turn_cut why
turn_end CutOther = Ok (Some ended.Cut)
turn_end (Refused why framing) = Ok (Some ended.Closed)
turn_end End = Ok (Some ended.Input)

-- what follows a turn
abbrev pub phase_after : {M : Type 0} → Result (Option Ended) WireFault → Phase M
phase_after (Ok None) = at_start
phase_after (Ok (Some e)) = Over (Ok e)
phase_after (Err fault) = Over (Err fault)

-- how the conversation ended, where it has
abbrev pub ended_in : Phase FramedRequest → Result (Option Ended) WireFault
ended_in (Looking s) = Ok None
ended_in (Waiting s) = Ok None
ended_in (Owing i) = Ok None
ended_in (Piece b part) = Ok None
ended_in (Over (Ok e)) = Ok (Some e)
ended_in (Over (Err fault)) = Err fault
ended_in (Stopped None) = Ok (Some ended.Closed)
ended_in (Stopped (Some why)) = turn_cut why

-- what is owed an answer, but for a piece
abbrev pub owed_in : Phase FramedRequest → Option (Incoming FramedRequest)
owed_in (Looking s) = None
owed_in (Waiting s) = None
owed_in (Owing i) = Some i
owed_in (Piece b part) = None
owed_in (Over r) = None
owed_in (Stopped r) = None

-- the body under way that is taken in pieces
abbrev pub body_in : {M : Type 0} → Phase M → Option PiecedBody
body_in (Looking s) = pieced s
body_in (Waiting s) = pieced s
body_in (Owing i) = None
body_in (Piece b part) = Some b
body_in (Over r) = None
body_in (Stopped r) = None

-- the piece that is owed an answer
abbrev pub piece_owed : Ahead → Phase FramedRequest → Option FramedRequest
piece_owed a (Looking s) = None
piece_owed a (Waiting s) = None
piece_owed a (Owing i) = None
piece_owed a (Piece b part) = Some (piece_in b a.lent)
piece_owed a (Over r) = None
piece_owed a (Stopped r) = None

-- These bytes came since the last message that was answered, and this was said meanwhile; where a message came in, it is what
-- they begin with.
abbrev pub StandsIn : RequestLimits → List ℕ → List ℕ → Ahead → Phase FramedRequest → Type 0
StandsIn limits bytes said a (Looking s) = Standing limits bytes said a s
StandsIn limits bytes said a (Waiting s) = Standing limits bytes said a s
StandsIn limits bytes said a (Owing i) = ComesIn limits (record { input = bytes; text = said }) a.held i
StandsIn limits bytes said a (Piece b part) = (gone : List ℕ) × IsTaken limits bytes said gone b (a.lent ++ a.held)
StandsIn limits bytes said a (Over r) = ⊥
StandsIn limits bytes said a (Stopped r) = ⊥

abbrev pub Stands : List ℕ → List ℕ → OnConnection → Type 0
Stands bytes said c = StandsIn c.limits bytes said c.read_buffer c.phase

-- a connection looks at a message
abbrev pub is_looking : {M : Type 0} → Phase M → Bool
is_looking (Looking s) = true
is_looking (Waiting s) = false
is_looking (Owing i) = false
is_looking (Piece b part) = false
is_looking (Over r) = false
is_looking (Stopped r) = false

-- it looks again, where it waited for more
abbrev pub looking_again : {M : Type 0} → Phase M → Phase M
looking_again (Looking s) = Looking s
looking_again (Waiting s) = Looking s
looking_again (Owing i) = Owing i
looking_again (Piece b part) = Piece b part
looking_again (Over r) = Over r
looking_again (Stopped r) = Stopped r

-- the next message, in place of one that came in
abbrev pub passed_over : Phase FramedRequest → Phase FramedRequest
passed_over (Looking s) = Looking s
passed_over (Waiting s) = Waiting s
passed_over (Owing (Message m)) = at_start
passed_over (Owing (CutPatch m why)) = Owing (CutPatch m why)
passed_over (Owing CutOther) = Owing CutOther
passed_over (Owing (Refused why framing)) = Owing (Refused why framing)
passed_over (Owing End) = Owing End
passed_over (Piece b part) = Piece b part
passed_over (Over r) = Over r
passed_over (Stopped r) = Stopped r

-- how many bytes may still come of a message, and the end
abbrev pub coming : Ahead → Phase FramedRequest → ℕ
coming a (Looking s) = still a s
coming a (Waiting s) = still a s
coming a (Owing i) = 0
coming a (Piece b part) = 0
coming a (Over r) = 0
coming a (Stopped r) = 0

-- how many bytes are held of a body that has not come whole
abbrev pub body_held : Ahead → Phase FramedRequest → ℕ
body_held a (Looking (Head s)) = 0
body_held a (Looking (Body p)) = length a.held - p.head_len
body_held a (Looking (Pieces b)) = length a.held - b.layout.head_len
body_held a (Waiting (Head s)) = 0
body_held a (Waiting (Body p)) = length a.held - p.head_len
body_held a (Waiting (Pieces b)) = length a.held - b.layout.head_len
body_held a (Owing i) = 0
body_held a (Piece b part) = 0
body_held a (Over r) = 0
body_held a (Stopped r) = 0

-- the message whose head was read and whose body has not come whole, with what came of it and was not taken
abbrev pub under_way : Ahead → Phase FramedRequest → Option FramedRequest
under_way a (Looking (Head s)) = None
under_way a (Looking (Body p)) = Some (framed_at a.held p)
under_way a (Looking (Pieces b)) = Some (piece_in b a.held)
under_way a (Waiting (Head s)) = None
under_way a (Waiting (Body p)) = Some (framed_at a.held p)
under_way a (Waiting (Pieces b)) = Some (piece_in b a.held)
under_way a (Owing i) = None
under_way a (Piece b part) = None
under_way a (Over r) = None
under_way a (Stopped r) = None

-- something is pending
abbrev pub one_if_pending : List ℕ → ℕ
one_if_pending [] = 0
one_if_pending (b ∷ rest) = 1

-- how much is left to do before an answer is owed, or nothing more is wanted
abbrev pub left_in : Ahead → Phase FramedRequest → List ℕ → ℕ
left_in a phase pending = (coming a phase + coming a phase) + one_if_pending pending

abbrev pub left : OnConnection → ℕ
left c = left_in c.read_buffer c.phase c.write_buffer.pending

-- some bytes are no whole message, nor is a message in them that is refused
abbrev pub HasNoMessage : RequestLimits → List ℕ → Type 0
HasNoMessage limits bytes = (f : NextMessage) × IsNextMessage limits bytes f × IsCut f
