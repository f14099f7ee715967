-- What a kept book answers, and what it keeps of it.
use Rattle.std.specs.Prelude.{◌≡◌, ◌⊎◌, ℕ, List, ◌++◌, Some, IsOk, IsErr}
use Rattle.sqlite_disk.specs.declared.Disk.{Ghosts}
use Rattle.tus_steps.specs.Changing.{change_found, change_reply}
use Rattle.tus_steps.specs.declared.requested_change.ChangeOf.{ChangeOf}
use Rattle.tus_steps.specs.declared.reply.Reply.{Reply}
use Rattle.tus_steps.specs.Request.{Request}
use Rattle.tus_steps.specs.Step.{IsStep}
use Rattle.upload_book.specs.Change.{change_answer, change_lacking}
use Rattle.upload_book.specs.Events.{ChangeEvent}
use Rattle.upload_book.specs.PlainBook.{PlainBook}
use Rattle.upload_book.specs.Settings.{Settings}
use Rattle.kept_book.specs.declared.kept.KeptBook.{KeptBook}
use Rattle.kept_book.specs.Kept.{IsKept}

-- There is no room for the record of the change that a request asks for, and that the book accepts: it is refused as where
-- memory lacks, and the book stays.
pub record IsUnkept (b : PlainBook) (r : Request) (now : ℕ) (reply : Reply) (after : PlainBook) : Type 0 where
  pub asked : ChangeOf
  pub found : change_found b.settings r ≡ Some asked
  pub accepted : IsOk (change_answer b asked.change now)
  pub told : reply ≡ change_reply r asked.offset (change_lacking b asked.change now)
  pub same : after ≡ b

-- the step of a request: the plain book's, or that
abbrev pub IsKeptStep : PlainBook → Request → ℕ → Reply → PlainBook → Type 0
IsKeptStep b r now reply after = IsStep b r now reply after ⊎ IsUnkept b r now reply after

-- The change that a request asks for is refused by the book, or it asks for none.
abbrev pub ChangesNothing : PlainBook → Request → ℕ → Type 0
ChangesNothing b r now = (asked : ChangeOf) → change_found b.settings r ≡ Some asked → IsErr (change_answer b asked.change now)

-- The answer where nothing more can be kept, after which the book is as before: to what changes nothing it is the plain
-- book's, and a change that the book accepts is refused as where memory lacks.
abbrev pub IsUnkeptAnswer : PlainBook → Request → ℕ → Reply → Type 0
IsUnkeptAnswer b r now reply = (ChangesNothing b r now × IsStep b r now reply b) ⊎ IsUnkept b r now reply b

-- the events, and then some more, are all that is kept
pub record GoesOn {D : Type 0} {g : Ghosts D} (kept : KeptBook D g) (s : Settings) (events : List ChangeEvent) : Type 0 where
  pub more : List ChangeEvent
  pub all : IsKept kept s (events ++ more)
