-- The history of a connection: what was taken from its client and handed out to it, and what was answered.
use Rattle.std.specs.Prelude.{◌≡◌, ◌⊎◌, ◌≤◌, ◌<◌, ◌+◌, ◌-◌, ⊤, ℕ, Bool, true, false, List, [], ◌∷◌, ◌++◌, length, map, take, Option, Some, None, All, Ok, Err}
use Rattle.tus_steps.specs.InPieces.{InPieces, MayComeInPieces, PieceAt, behind, created_in, is_taken}
use Rattle.tus_steps.specs.Method.{is_patch}
use Rattle.tus_steps.specs.Request.{Request}
use Rattle.tus_steps.specs.declared.reply.Reply.{Reply}
use Rattle.http_wire.specs.Conversation.{continue_text}
use Rattle.http_wire.specs.Exchange.{Exchange, followed}
use Rattle.http_wire.specs.Incoming.{FramedRequest}
use Rattle.http_wire.specs.Layout.{request_at}
use Rattle.http_wire.specs.NextMessage.{closing}
use Rattle.http_wire.specs.OnConnection.{OnConnection, Stands}
use Rattle.http_wire.specs.PiecedBody.{IsTaken}
use Rattle.http_wire.specs.ReplyText.{reply_text}
use Rattle.http_wire.specs.Turns.{Breaks, Converses, Turns}
use Rattle.http_wire.specs.declared.incoming.Cut.{Cut}
use Rattle.http_wire.specs.declared.incoming.Cut.TheVariants as cut
use Rattle.http_wire.specs.declared.read.layout.Layout.{Layout}
use Rattle.http_wire.specs.declared.read.pieces.PiecedBody.{PiecedBody}
use Rattle.http_wire.specs.declared.read.stage.Stage.{Stage}
use Rattle.http_wire.specs.declared.read.stage.Stage.TheVariants.{Head, Body, Pieces}
use Rattle.http_wire.specs.inside.HeadLayout.{BeginsHead}
use Rattle.http_wire.specs.declared.phase.Phase.{Phase}
use Rattle.http_wire.specs.declared.phase.Phase.TheVariants.{Looking, Waiting, Owing, Piece, Over, Stopped}

-- a request, its moment, and the reply to it
pub record Answering : Type 0 where
  pub request : Request
  pub now : ℕ
  pub reply : Reply

-- At one moment at most one request is answered, and at that moment.
abbrev pub IsAnsweredAt : ℕ → List Answering → Type 0
IsAnsweredAt now [] = ⊤
IsAnsweredAt now (q ∷ answered) = (q.now ≡ now) × (answered ≡ [])

-- the moments of answers
abbrev pub answer_moments : List Answering → List ℕ
answer_moments answered = map {A = Answering} {B = ℕ} (λ (q : Answering). q.now) answered

-- steps that only note what was answered
abbrev pub Notes : List Answering → Request → ℕ → Reply → List Answering → Type 0
Notes before request now reply after = after ≡ before ++ record { request = request; now = now; reply = reply } ∷ []

-- The same of a request that is noted piece by piece. Each piece but the last has at least so many bytes, and the last has some.
abbrev pub NotesInPieces : ℕ → List Answering → Request → ℕ → Reply → List Answering → Type 0
NotesInPieces n before request now reply after = (step : InPieces Notes before request now reply after) × All (λ (q : PieceAt). n ≤ q.len) step.pieces × (0 < length step.left.body)

-- The same where bodies may be taken in pieces of some size. A request is noted as one. A PATCH or a POST without a checksum
-- whose body has more bytes than a piece is noted piece by piece instead.
abbrev pub NotesBy : Option ℕ → List Answering → Request → ℕ → Reply → List Answering → Type 0
NotesBy None before request now reply after = Notes before request now reply after
NotesBy (Some n) before request now reply after =
    ((MayComeInPieces request → length request.body ≤ n) × Notes before request now reply after)
    ⊎ (MayComeInPieces request × (n < length request.body) × NotesInPieces n before request now reply after)

-- each of these pieces has at least so many bytes
abbrev pub AreLong : ℕ → List Answering → Type 0
AreLong n pieces = All (λ (q : Answering). n ≤ length q.request.body) pieces

-- the piece of a body of n bytes that has these, behind so many that were given before
abbrev pub piece_of : Request → ℕ → ℕ → List ℕ → Request
piece_of r n given bytes = record r { body = bytes; given = given; more = n - (given + length bytes) }

-- what is asked for behind pieces that were answered: a creation goes on as a PATCH of the upload that it created
abbrev pub behind_pieces : Request → List Answering → Request
behind_pieces r [] = r
behind_pieces r (q ∷ answered) = behind_pieces (behind (created_in q.reply) r) answered

-- pieces of it were taken, one after another, from a place on; each has some bytes, and together they are these
abbrev pub AreGiven : Request → ℕ → ℕ → List Answering → List ℕ → Type 0
AreGiven r n given [] bytes = bytes ≡ []
AreGiven r n given (q ∷ answered) bytes =
    (piece later : List ℕ) × (q.request ≡ piece_of r n given piece) × (is_taken r q.reply ≡ true) × (bytes ≡ piece ++ later)
    × (0 < length piece) × AreGiven (behind (created_in q.reply) r) n (given + length piece) answered later

module _ {A : Type 0} (steps : A → Request → ℕ → Reply → A → Type 0) where
  -- these answers are steps, one after another, from one state to another
  abbrev pub Follows : A → List Answering → A → Type 0
  Follows a [] b = b ≡ a
  Follows a (q ∷ answered) b = (c : A) × steps a q.request q.now q.reply c × Follows c answered b

-- What has passed: all bytes that reads brought, all that were sent, and what was answered. `moments` has those at which messages
-- and refusals were answered, one that was cut and applied included. `all_moments` has those of all pieces too.
pub record History : Type 0 where
  pub taken : List ℕ
  pub handed : List ℕ
  pub moments : List ℕ
  pub all_moments : List ℕ
  pub answered : List Answering

-- nothing has passed
abbrev pub nothing_yet : History
nothing_yet = record { taken = []; handed = []; moments = []; all_moments = []; answered = [] }

-- the same, after these bytes were taken, or were sent
abbrev pub took : History → List ℕ → History
took p got = record p { taken = p.taken ++ got }

abbrev pub gave : History → List ℕ → History
gave p bytes = record p { handed = p.handed ++ bytes }

-- the same, after this was answered at a moment, which ended a message, or was a piece with more to come
abbrev pub noted : History → ℕ → List Answering → History
noted p now answered = record p { moments = p.moments ++ now ∷ []; all_moments = p.all_moments ++ now ∷ []; answered = p.answered ++ answered }

abbrev pub noted_piece : History → ℕ → List Answering → History
noted_piece p now answered = record p { all_moments = p.all_moments ++ now ∷ []; answered = p.answered ++ answered }

-- the same, by the body under way behind the answer
abbrev pub noted_before : Option PiecedBody → History → ℕ → List Answering → History
noted_before None p now answered = noted p now answered
noted_before (Some b) p now answered = noted_piece p now answered

-- an exchange of what was taken, with this text and these notes of answers
abbrev pub told_with : History → List ℕ → List Answering → Exchange (List Answering)
told_with p text after = record { input = p.taken; text = text; before = []; after = after }

-- a history with the text that goes with it, as what passed between a client and notes of its answers
abbrev pub told : History → List ℕ → Exchange (List Answering)
told p text = told_with p text p.answered

-- Whole messages were taken and answered, and then some bytes of the next. Their text, and what was said for the next, is what
-- was sent and then what is pending.
pub record Stood (p : History) (c : OnConnection) : Type 0 where
  pub start : List ℕ
  pub said : List ℕ
  pub text : List ℕ
  pub reached : (rest : List ℕ) → Turns (NotesBy c.piece) c.limits p.moments (followed (told p text) rest) (start ++ rest)
  pub sent : p.handed ++ c.write_buffer.pending ≡ text ++ said
  pub stands : Stands start said c

-- Whole messages were taken and answered, and then pieces of the next, which is a PATCH or a POST without a checksum. All pieces
-- were accepted, and each had the bytes behind those before it, and its size. The rest of what came is here, behind the head, and
-- this is asked for with it.
pub record StoodInPieces (p : History) (c : OnConnection) (b : PiecedBody) (here : List ℕ) : Type 0 where
  pub start : List ℕ
  pub said : List ℕ
  pub text : List ℕ
  pub gone : List ℕ
  pub before : List Answering
  pub pieces : List Answering
  pub answered : p.answered ≡ before ++ pieces
  pub reached : (rest : List ℕ) → Turns (NotesBy c.piece) c.limits p.moments (followed (told_with p text before) rest) (start ++ rest)
  pub sent : p.handed ++ c.write_buffer.pending ≡ text ++ said
  pub taken : IsTaken c.limits start said gone b here
  pub given : AreGiven (request_at b.layout (take b.layout.head_len here)) b.layout.body_len 0 pieces gone
  pub asks : behind_pieces (request_at b.layout (take b.layout.head_len here)) pieces ≡ behind b.created (request_at b.layout (take b.layout.head_len here))
  pub sized : AreLong b.piece pieces

-- How a connection stops with a piece, by whether the end of the input was seen. A piece that is refused gets the reply, which
-- closes the connection. One behind which the body was cut is for an upload, and gets none. The end was seen where that cut it, and
-- not where a read failed.
abbrev pub StopsWith : Bool → Option Cut → Layout → Answering → List ℕ → Type 0
StopsWith at_end None p last text =
    (is_taken last.request last.reply ≡ false) × (text ≡ continue_text p.is_waiting ++ reply_text last.reply last.now (closing p.framing))
StopsWith at_end (Some cut.Ended) p last text = (at_end ≡ true) × (is_patch last.request.method ≡ true) × (text ≡ continue_text p.is_waiting)
StopsWith at_end (Some cut.Fault) p last text = (at_end ≡ false) × (is_patch last.request.method ≡ true) × (text ≡ continue_text p.is_waiting)

-- the last piece has at least this size where it was refused, and fewer bytes where the body was cut
abbrev pub IsLastSize : ℕ → Option Cut → ℕ → Type 0
IsLastSize size None len = size ≤ len
IsLastSize size (Some why) len = len < size

-- Whole messages were taken and answered, and then pieces of the next, which is a PATCH or a POST without a checksum. All but the
-- last piece were accepted, and had at least the size of a piece. The last has all bytes that came behind those, and more was to
-- come: it has that size too where it was refused, and fewer where the body was cut behind it. With it the connection ends so, at
-- its moment.
pub record StoppedInPieces (p : History) (c : OnConnection) (why : Option Cut) : Type 0 where
  pub start : List ℕ
  pub text : List ℕ
  pub said : List ℕ
  pub layout : Layout
  pub head : List ℕ
  pub gone : List ℕ
  pub before : List Answering
  pub pieces : List Answering
  pub last : Answering
  pub moments : List ℕ
  pub timed : p.moments ≡ moments ++ last.now ∷ []
  pub answered : p.answered ≡ (before ++ pieces) ++ last ∷ []
  pub reached : (rest : List ℕ) → Turns (NotesBy c.piece) c.limits moments (followed (told_with p text before) rest) (start ++ rest)
  pub sent : p.handed ++ c.write_buffer.pending ≡ text ++ said
  pub long : length head ≡ layout.head_len
  pub begins : BeginsHead c.limits start layout (head ++ (gone ++ last.request.body))
  pub plain : MayComeInPieces (request_at layout head)
  pub size : ℕ
  pub by_size : c.piece ≡ Some size
  pub longer : size < layout.body_len
  pub given : AreGiven (request_at layout head) layout.body_len 0 pieces gone
  pub sized : AreLong size pieces
  pub last_size : IsLastSize size why (length last.request.body)
  pub piece : last.request ≡ piece_of (behind_pieces (request_at layout head) pieces) layout.body_len (length gone) last.request.body
  pub more : 0 < last.request.more
  pub stops : StopsWith c.read_buffer.ended why layout last said

-- What was sent, and then what is pending, is the text of the conversation of the bytes that were taken. It is that so far, and
-- as a whole once it is over. Where a read failed, it is broken off; the message that was cut takes one moment more, whichever.
abbrev pub StandsAt : History → OnConnection → Stage → Type 0
StandsAt p c (Head s) = Stood p c
StandsAt p c (Body l) = Stood p c
StandsAt p c (Pieces b) = StoodInPieces p c b c.read_buffer.held

abbrev pub StandsAfter : History → OnConnection → Phase FramedRequest → Type 0
StandsAfter p c (Looking s) = StandsAt p c s
StandsAfter p c (Waiting s) = StandsAt p c s
StandsAfter p c (Owing i) = Stood p c
StandsAfter p c (Piece b part) = StoodInPieces p c b (c.read_buffer.lent ++ c.read_buffer.held)
StandsAfter p c (Over (Ok e)) = Converses (NotesBy c.piece) c.limits p.moments (told p (p.handed ++ c.write_buffer.pending)) e
StandsAfter p c (Over (Err fault)) =
    (last : List ℕ) × Breaks (NotesBy c.piece) c.limits (p.moments ++ last) (told p (p.handed ++ c.write_buffer.pending)) fault
StandsAfter p c (Stopped why) = StoppedInPieces p c why

abbrev pub HasHistory : History → OnConnection → Type 0
HasHistory p c = StandsAfter p c c.phase
