-- A message that is answered piece by piece, as the bytes of its body come.
use Rattle.std.specs.Prelude.{◌≡◌, ◌+◌, ℕ, false, List, [], ◌∷◌, ◌++◌, length}
use Rattle.tus_steps.specs.InPieces.{InPieces, reply_to_all}
use Rattle.tus_steps.specs.declared.reply.Reply.{Reply}
use Rattle.http_wire.specs.Conversation.{continue_text}
use Rattle.http_wire.specs.History.{Answering, AreGiven, Notes, behind_pieces, piece_of}
use Rattle.http_wire.specs.Layout.{request_at}
use Rattle.http_wire.specs.ReplyText.{reply_text}
use Rattle.http_wire.specs.Turns.{Answered}
use Rattle.http_wire.specs.declared.read.layout.Layout.{Layout}
use Rattle.http_wire.specs.inside.HeadLayout.{BeginsHead}
use Rattle.http_wire.specs.declared.request_limits.RequestLimits.{RequestLimits}

-- The bytes that came are a message of this layout, and what is behind it. Its body was taken in pieces but for its last
-- bytes, and these got a reply. Then the message is answered in pieces, and the connection stays open.
abbrev pub PiecesAreATurn : Type 0
PiecesAreATurn =
    (limits : RequestLimits) (now : ℕ) (bytes : List ℕ) (p : Layout) (head gone last left : List ℕ) (before answered : List Answering) (reply : Reply)
    → BeginsHead limits bytes p (head ++ ((gone ++ last) ++ left)) → length head ≡ p.head_len → length gone + length last ≡ p.body_len
    → p.framing.close ≡ false → AreGiven (request_at p head) p.body_len 0 answered gone
    → (rest : List ℕ) → Answered (InPieces Notes) limits now (record {
      input = bytes ++ rest;
      text = continue_text p.is_waiting ++ reply_text (reply_to_all (request_at p head) (behind_pieces (request_at p head) answered) reply) now p.framing;
      before = before;
      after = (before ++ answered)
          ++ record { request = piece_of (behind_pieces (request_at p head) answered) p.body_len (length gone) last; now = now; reply = reply } ∷ [];
    }) (left ++ rest)
