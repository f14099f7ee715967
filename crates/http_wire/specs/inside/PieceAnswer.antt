-- What becomes of a connection by the answer to a piece of a body.
use Rattle.std.specs.Prelude.{⊤, ◌≡◌, ℕ, List, [], ◌++◌, take, Option, Some, None, Ok, MatchBool}
use Rattle.tus_steps.specs.InPieces.{as_creation, created_in, is_taken}
use Rattle.tus_steps.specs.Request.{Request}
use Rattle.tus_steps.specs.declared.reply.Reply.{Reply}
use Rattle.http_wire.specs.Incoming.{FramedRequest}
use Rattle.http_wire.specs.NextMessage.{closing}
use Rattle.http_wire.specs.OnConnection.{OnConnection, phase_after}
use Rattle.http_wire.specs.PiecedBody.{piece_in}
use Rattle.http_wire.specs.ReplyText.{reply_text}
use Rattle.http_wire.specs.declared.phase.Phase.{Phase}
use Rattle.http_wire.specs.declared.phase.Phase.TheVariants.{Looking, Waiting, Owing, Piece, Over, Stopped}
use Rattle.http_wire.specs.declared.read.pieces.Part.{Part}
use Rattle.http_wire.specs.declared.read.pieces.Part.TheVariants as part
use Rattle.http_wire.specs.declared.read.pieces.PiecedBody.{PiecedBody}
use Rattle.http_wire.specs.declared.read.stage.Stage.TheVariants.{Pieces}
use Rattle.http_wire.specs.inside.Ahead.{Ahead}
use Rattle.http_wire.specs.inside.Standing.{lent_to}
use Rattle.http_wire.specs.inside.TurnFinish.{ended_after}

-- the upload that pieces created, if they did, once the last of them got this reply
abbrev pub created_with : Option ℕ → Reply → Option ℕ
created_with None reply = created_in reply
created_with (Some id) reply = Some id

-- the body once the piece that is lent was taken, and got this reply
abbrev pub with_lent : Ahead → Reply → PiecedBody → PiecedBody
with_lent a reply b = record b { given = lent_to a b; created = created_with b.created reply }

-- the reply to the last piece of a message, where this is its request: where pieces created its upload, it is that to the creation
abbrev pub reply_by : Option ℕ → Request → Reply → Reply
reply_by None r reply = reply
reply_by (Some id) r reply = as_creation r.path reply

-- a piece was accepted: the head is held for the next, and nothing is sent
pub record Accepts {M : Type 0} (b : PiecedBody) (reply : Reply) (old new : Ahead) (before after : List ℕ) (q : Phase M) : Type 0 where
  pub read_buffer : new ≡ record old { lent = []; held = take b.layout.head_len old.lent }
  pub pending : after ≡ before
  pub phase : q ≡ Looking (Pieces (with_lent old reply b))

-- the connection is done with the body: it sends this, and then has come so far
pub record EndsBody {M : Type 0} (put : List ℕ) (next : Phase M) (old new : Ahead) (before after : List ℕ) (q : Phase M) : Type 0 where
  pub read_buffer : new ≡ old
  pub pending : after ≡ before ++ put
  pub phase : q ≡ next

-- A piece with more to come is accepted, or else the reply closes the connection. The last one gets the reply to its message.
-- One behind which the body was cut gets none.
abbrev pub AnswersPiece : {M : Type 0} → ℕ → PiecedBody → Part → Reply → Ahead → Ahead → List ℕ → List ℕ → Phase M → Type 0
AnswersPiece now b part.Middle reply old new before after phase =
    MatchBool (is_taken (piece_in b old.lent).request reply) (Accepts b reply old new before after phase)
    (EndsBody (reply_text reply now (closing b.layout.framing)) (Stopped None) old new before after phase)
AnswersPiece now b part.Last reply old new before after phase =
    EndsBody (reply_text (reply_by b.created (piece_in b old.lent).request reply) now b.layout.framing) (phase_after (Ok (ended_after b.layout.framing.close))) old new before after phase
AnswersPiece now b (part.Cut why) reply old new before after phase = EndsBody [] (Stopped (Some why)) old new before after phase

module _ {A : Type 0} (steps : A → Request → ℕ → Reply → A → Type 0) where
  -- The piece that a connection owes an answer was answered at a moment. The answerer made its step, and the connection became
  -- this by the reply.
  abbrev pub AnswersOwed : ℕ → A → A → OnConnection → OnConnection → Phase FramedRequest → Type 0
  AnswersOwed now before after old new (Looking s) = ⊤
  AnswersOwed now before after old new (Waiting s) = ⊤
  AnswersOwed now before after old new (Owing i) = ⊤
  AnswersOwed now before after old new (Piece b which) =
      (reply : Reply) × steps before (piece_in b old.read_buffer.lent).request now reply after
      × AnswersPiece now b which reply old.read_buffer new.read_buffer old.write_buffer.pending new.write_buffer.pending new.phase
  AnswersOwed now before after old new (Over r) = ⊤
  AnswersOwed now before after old new (Stopped r) = ⊤
