-- What a desk does for a message that a worker read.
use Rattle.std.specs.Prelude.{◌≡◌, ◌⊎◌, ℕ, true, Option}
use Rattle.upload_book.specs.declared.sweep.Swept.{Swept}
use Rattle.upload_book.specs.Settings.{Settings}
use Rattle.tus_steps.specs.declared.reply.Reply.{Reply}
use Rattle.tus_steps.specs.Method.{is_head}
use Rattle.tus_steps.specs.Request.{Request}
use Rattle.head_board.specs.Board.{SeesNoneExpired}
use Rattle.tus_shared.specs.Answers.{AnswersTurn, OnlySeesMore, Sweeps}
use Rattle.tus_shared.specs.Desk.{Desk}

-- the desk ended the uploads that had expired at a moment, or it read beside the lock that none had
abbrev pub SweepsExpired : Settings → ℕ → Desk → Desk → Type 0
SweepsExpired s now old new =
    ((swept : Option Swept) × Sweeps s now swept old new) ⊎ (SeesNoneExpired s old.seen new.seen now × OnlySeesMore old new)

-- The desk answers a request at a moment. Before that it may have ended the uploads that had expired then, or read that there
-- were none; nothing here demands that it does. Before a HEAD it does neither, so a HEAD waits for no sweep.
pub record ServesTurn (s : Settings) (request : Request) (now : ℕ) (reply : Reply) (old new : Desk) : Type 0 where
  pub ready : Desk
  pub sweeps : SweepsExpired s now old ready ⊎ (ready ≡ old)
  pub head : is_head request.method ≡ true → ready ≡ old
  pub answers : AnswersTurn s request now reply ready new

-- The same at a desk that was granted room for records first, or was not.
pub record ServesKept (s : Settings) (request : Request) (now : ℕ) (reply : Reply) (old new : Desk) : Type 0 where
  pub granted : Desk
  pub grants : granted ≡ record old { room = granted.room }
  pub serves : ServesTurn s request now reply granted new

-- The desk may have been granted room for records, and may then have ended the uploads that had expired at a moment, or read
-- that there were none.
pub record SweepsKept (s : Settings) (now : ℕ) (old new : Desk) : Type 0 where
  pub granted : Desk
  pub grants : granted ≡ record old { room = granted.room }
  pub sweeps : SweepsExpired s now granted new ⊎ (new ≡ granted)
