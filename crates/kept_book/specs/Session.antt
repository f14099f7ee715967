-- Requests that are answered one after another, and what a crash leaves of what their replies told.
use Rattle.std.specs.Prelude.{◌≡◌, ℕ, List, [], ◌∷◌, ◌++◌, length, take}
use Rattle.sqlite_disk.specs.declared.Disk.{Ghosts}
use Rattle.tus_steps.specs.declared.reply.Reply.{Reply}
use Rattle.tus_steps.specs.Request.{Request}
use Rattle.upload_book.specs.Events.{ChangeEvent, book_after_all}
use Rattle.upload_book.specs.PlainBook.{PlainBook, opening_book}
use Rattle.upload_book.specs.Settings.{Settings}
use Rattle.kept_book.specs.Answer.{IsKeptStep}
use Rattle.kept_book.specs.declared.kept.KeptBook.{KeptBook}
use Rattle.kept_book.specs.Kept.{book_in, disk_in, key_in, IsLeftWithOneMore}

-- the requests get these replies, one each and in their order, and the book is the last one in the end
abbrev pub IsRun : PlainBook → List (Request × ℕ) → List Reply → PlainBook → Type 0
IsRun b [] [] after = after ≡ b
IsRun b [] (reply ∷ replies) after = ⊥
IsRun b (turn ∷ turns) [] after = ⊥
IsRun b (turn ∷ turns) (reply ∷ replies) after = (middle : PlainBook) × IsKeptStep b turn.0 turn.1 reply middle × IsRun middle turns replies after

-- These events were kept before, and then what the replies told: the first so many requests got these replies, on the book
-- before and up to the plain book after these events. Whatever happened then, a crash leaves all of them.
pub record IsSession {D : Type 0} {g : Ghosts D} (old new : KeptBook D g) (s : Settings) (events : List ChangeEvent) (turns : List (Request × ℕ)) (replies : List Reply) : Type 0 where
  pub told : List ChangeEvent
  pub run : IsRun (book_in old) (take (length replies) turns) replies (book_after_all (opening_book s) (events ++ told))
  pub left : (c : List ℕ) → g.may_leave (disk_in new) c → IsLeftWithOneMore (key_in old) s (events ++ told) c
