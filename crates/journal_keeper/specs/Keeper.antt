-- The keeper of a store's journal: what it keeps, and what a crash leaves of that.
use Rattle.std.specs.Prelude.{◌≡◌, ◌⊎◌, ℕ, ◌-◌, ◌≤◌, Bool, false, IsTrue, List, [], length, map, Option, Some, None, IfSome, Ok}
use mathlib.Core.List.{IsPrefix}
use Rattle.logbook.specs.Pages.{Book}
use Rattle.sqlite_disk.specs.declared.Disk.{Ghosts}
use Rattle.book_replay.specs.Replay.{records_of, replayed}
use Rattle.journal_file.specs.declared.journal.Journal.{Journal}
use Rattle.journal_file.specs.Journal.{disk_of, key_of, room_of, IsJournal}
use Rattle.journal_frames.specs.Frames.{recovered, tail_of}
use Rattle.journal_frames.specs.declared.tail.Tail.TheVariants.{Torn}
use Rattle.upload_book.specs.Events.{ChangeEvent}
use Rattle.upload_book.specs.PlainBook.{opening_book}
use Rattle.upload_book.specs.Settings.{Settings}
use Rattle.head_board.specs.Event.{Event}
use Rattle.head_board.specs.inside.EventLog.{LogPrefix}
use Rattle.head_board.specs.Events.{HaveHappened, book_at, change_event}
use Rattle.tus_shared.specs.Restoring.{RestoreNothing}
use Rattle.journal_keeper.specs.Numbers.{more}
use Rattle.journal_keeper.specs.declared.numbers.SyncCounts.{SyncCounts}

-- What is seen of a keeper: the key of its journal; the events that are kept there, and those that it tried to keep; whether a
-- write or a sync has failed; how many bytes of room it granted to desks, and has not seen used; how many bytes may still be
-- appended, and how many the frames of the records have; what it has synced; the disk; and another one, which may have taken its
-- place, where that failed.
pub record KeeperView (D : Type 0) : Type 0 where
  pub key : ℕ
  pub kept : List Event
  pub tried : List Event
  pub failed : Bool
  pub promised : ℕ
  pub room : ℕ
  pub bytes : ℕ
  pub synced : SyncCounts
  pub disk : D
  pub maybe_in_place : Option D

-- a crash may leave this file: on the disk, or on the other one that may have taken its place
abbrev pub MayBeLeft : {D : Type 0} → (D → List ℕ → Type 0) → KeeperView D → List ℕ → Type 0
MayBeLeft {D} may_leave keeper file = may_leave keeper.disk file ⊎ ((new : D) × (keeper.maybe_in_place ≡ Some new) × may_leave new file)

-- the records of events, one each, in their order
abbrev pub event_records : List Event → List (List ℕ)
event_records events = records_of (map {A = Event} {B = ChangeEvent} change_event events)

-- of the records the plain book after these events is made (`book_replay/specs/Replay`)
abbrev pub MakeBook : Settings → List Event → List (List ℕ) → Type 0
MakeBook s events records = replayed 1 (opening_book s) records ≡ Ok (book_at s events)

-- The journal has records of which the book after these events is made, all synced, and no others. They are those of the
-- events, or a snapshot's, and behind it those of the events since.
pub record KeepsBook {D : Type 0} {g : Ghosts D} (s : Settings) (journal : Journal D g) (events : List Event) : Type 0 where
  pub records : List (List ℕ)
  pub holds : IsJournal journal records []
  pub make : MakeBook s events records

-- What a crash leaves where these events are kept: records, of which the plain book is made that is the one after events which
-- begin with them, and happened to a book of these settings, one after another; and no damage.
pub record IsLeft (key : ℕ) (s : Settings) (kept : List Event) (file : List ℕ) : Type 0 where
  pub events : List Event
  pub begins : IsPrefix kept events
  pub happened : HaveHappened s events
  pub torn : tail_of key file ≡ Torn
  pub make : MakeBook s events (recovered key file)

-- So does a keeper leave it which tried to keep these events, and keeps the first of them: what comes behind these are the next
-- events that it tried to keep, in their order, and restores nothing.
pub record IsLeftBy (key : ℕ) (s : Settings) (kept tried : List Event) (file : List ℕ) : Type 0 where
  pub left : IsLeft key s kept file
  pub within : IsPrefix left.events tried
  pub plain : RestoreNothing left.begins.0

-- One sync more was made, which kept the events that are kept since; and no time is lost.
pub record CountsSync {D : Type 0} (before after : KeeperView D) : Type 0 where
  pub once : after.synced.syncs ≡ more 1 before.synced.syncs
  pub each : after.synced.records ≡ more (length after.kept - length before.kept) before.synced.records
  pub longer : before.synced.micros ≤ after.synced.micros

-- What every keeper keeps. Its key is that of the opening. The events that are kept, and happened, and those that it tried to
-- keep are first events of the log of the opening; until keeping fails these are the same, and then those begin with these. Where
-- the disk had told no lie when the journal was opened: while no write or sync has failed, the journal has records of which the
-- book after these events is made, and no other one may have taken its place; and failed or not, a crash leaves such records, on
-- whichever disk. The journal has room for all that was granted.
pub record IsKeeper {D : Type 0} {g : Ghosts D} (s : Settings) (log : Book) (own : Option ℕ) (honest : Bool) (journal : Journal D g) (other : Option (Journal D g)) (durable tried : LogPrefix) (promised : ℕ) (failed : Bool) : Type 0 where
  pub key : own ≡ Some (key_of journal)
  pub durable_log : durable.book ≡ log
  pub tried_log : tried.book ≡ log
  pub begins : IsPrefix durable.events tried.events
  pub no_more : failed ≡ false → tried ≡ durable
  pub happened : HaveHappened s durable.events
  pub holds : failed ≡ false → IsTrue honest → KeepsBook s journal durable.events
  pub left : IsTrue honest → (c : List ℕ) → g.may_leave (disk_of journal) c → IsLeftBy (key_of journal) s durable.events tried.events c
  pub alone : failed ≡ false → other ≡ None
  pub other_left : IsTrue honest → IfSome other (λ it. (c : List ℕ) → g.may_leave (disk_of it) c → IsLeftBy (key_of journal) s durable.events tried.events c)
  pub covered : failed ≡ false → promised ≤ room_of journal
