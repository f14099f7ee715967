-- A step of a conversation on a kept book.
use Rattle.std.specs.Prelude.{◌≡◌, ◌⊎◌, ℕ, Bool, true, false, List}
use Rattle.sqlite_disk.specs.declared.Disk.{Ghosts}
use Rattle.kept_book.specs.Answer.{GoesOn, IsKeptStep, IsUnkeptAnswer}
use Rattle.kept_book.specs.declared.kept.KeptBook.{KeptBook}
use Rattle.kept_book.specs.Kept.{book_in, disk_in, key_in, IsKept, IsLeftWithOneMore}
use Rattle.tus_steps.specs.declared.reply.Reply.{Reply}
use Rattle.tus_steps.specs.Request.{Request}
use Rattle.upload_book.specs.Events.{ChangeEvent}
use Rattle.upload_book.specs.PlainBook.{PlainBook}
use Rattle.upload_book.specs.Settings.{Settings}

-- what a conversation on a kept book is about: the plain book, and whether a write or a sync of the journal has failed
pub record KeptState : Type 0 where
  pub book : PlainBook
  pub has_failed : Bool

-- the journal works
abbrev pub working : PlainBook → KeptState
working b = record { book = b; has_failed = false }

-- The journal works: the plain book answers, or refuses a change that it accepts as Memory, where there is no room for its
-- record.
pub record Works (old : KeptState) (r : Request) (now : ℕ) (reply : Reply) (new : KeptState) : Type 0 where
  pub worked : old.has_failed ≡ false
  pub works : new.has_failed ≡ false
  pub step : IsKeptStep old.book r now reply new.book

-- The journal has failed, at this request or before it: what changes nothing is answered, a change that the book accepts is
-- refused as where memory lacks, and the book stays.
pub record Fails (old : KeptState) (r : Request) (now : ℕ) (reply : Reply) (new : KeptState) : Type 0 where
  pub failed : new.has_failed ≡ true
  pub answer : IsUnkeptAnswer old.book r now reply
  pub same : new.book ≡ old.book

abbrev pub IsJournalStep : KeptState → Request → ℕ → Reply → KeptState → Type 0
IsJournalStep old r now reply new = Works old r now reply new ⊎ Fails old r now reply new

-- The same of the kept book that stands for such a state, before and after a request, with what is kept.
module _ {D : Type 0} {g : Ghosts D} (old : KeptBook D g) (failed : Bool) (r : Request) (now : ℕ) (reply : Reply) (new : KeptBook D g) (fails : Bool) where
  -- it answered, and keeps all that it kept and what it changed
  pub record AnswersKept : Type 0 where
    pub worked : failed ≡ false
    pub works : fails ≡ false
    pub step : IsKeptStep (book_in old) r now reply (book_in new)
    pub kept : (s : Settings) (events : List ChangeEvent) → IsKept old s events → GoesOn new s events

  -- its journal failed, and a crash leaves all that was kept, and one change more at most
  pub record FailsKept : Type 0 where
    pub worked : failed ≡ false
    pub failed_now : fails ≡ true
    pub answer : IsUnkeptAnswer (book_in old) r now reply
    pub stays : book_in new ≡ book_in old
    pub left : (s : Settings) (events : List ChangeEvent) → IsKept old s events
        → (c : List ℕ) → g.may_leave (disk_in new) c → IsLeftWithOneMore (key_in old) s events c

  -- its journal had failed before, and nothing was asked of it
  pub record StaysFailed : Type 0 where
    pub failed_before : failed ≡ true
    pub failed_still : fails ≡ true
    pub answer : IsUnkeptAnswer (book_in old) r now reply
    pub stays : book_in new ≡ book_in old
    pub disk : disk_in new ≡ disk_in old

  pub record IsStepKept : Type 0 where
    pub key : key_in new ≡ key_in old
    pub step : AnswersKept ⊎ FailsKept ⊎ StaysFailed
