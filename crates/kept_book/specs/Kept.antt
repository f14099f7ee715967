-- What a kept book keeps, and what a crash leaves of it.
use Rattle.std.specs.Prelude.{◌≡◌, ℕ, ◌≤◌, Bool, List, [], ◌∷◌, ◌++◌, length, IsTrue}
use Rattle.sqlite_disk.specs.declared.Disk.{Ghosts}
use Rattle.book_replay.specs.Replay.{AllHappen, records_of}
use Rattle.journal_file.specs.Journal.{disk_of, key_of, IsJournal}
use Rattle.journal_frames.specs.Frames.{frames, recovered, tail_of, Fits}
use Rattle.journal_frames.specs.declared.tail.Tail.TheVariants.{Torn}
use Rattle.upload_book.specs.Book.{plain_of}
use Rattle.upload_book.specs.Events.{ChangeEvent, book_after_all}
use Rattle.upload_book.specs.PlainBook.{PlainBook, opening_book}
use Rattle.upload_book.specs.Settings.{Settings}
use Rattle.kept_book.specs.declared.kept.KeptBook.{KeptBook}
use Rattle.kept_book.specs.declared.log.RecordLog.{RecordLog}

module _ {D : Type 0} {g : Ghosts D} where
  abbrev pub book_in : KeptBook D g → PlainBook
  book_in kept = plain_of kept.book

  -- the journal, its key, and whether it has failed
  abbrev pub log_in : KeptBook D g → RecordLog D g
  log_in kept = kept.log

  abbrev pub disk_in : KeptBook D g → D
  disk_in kept = disk_of kept.log.journal

  abbrev pub key_in : KeptBook D g → ℕ
  key_in kept = key_of kept.log.journal

  -- a write or a sync has failed
  abbrev pub has_failed : KeptBook D g → Bool
  has_failed kept = kept.log.has_failed

-- the journal has these payloads, all synced, under the key that is kept beside it
pub record IsRecordLog {D : Type 0} {g : Ghosts D} (log : RecordLog D g) (payloads : List (List ℕ)) : Type 0 where
  pub journal : IsJournal log.journal payloads []
  pub key : log.key ≡ key_of log.journal

-- the frame that was made last is that of this record, which a frame can hold
pub record HasFrame {D : Type 0} {g : Ghosts D} (log : RecordLog D g) (payload : List ℕ) : Type 0 where
  pub fits : Fits payload
  pub frame : log.frame.items ≡ frames log.key (payload ∷ [])

-- These events happened to a book of these settings since its opening, one after another. Their records are all that the
-- journal has, synced, and the book is the plain book after them.
pub record IsKept {D : Type 0} {g : Ghosts D} (kept : KeptBook D g) (s : Settings) (events : List ChangeEvent) : Type 0 where
  pub log : IsRecordLog kept.log (records_of events)
  pub happened : AllHappen (opening_book s) events
  pub book : book_in kept ≡ book_after_all (opening_book s) events

-- What a crash leaves where these events are kept: their records, and at most one more, of an event that the book after
-- them accepts, and no damage.
pub record IsLeftWithOneMore (key : ℕ) (s : Settings) (events : List ChangeEvent) (file : List ℕ) : Type 0 where
  pub more : List ChangeEvent
  pub few : length more ≤ 1
  pub happened : AllHappen (opening_book s) (events ++ more)
  pub records : recovered key file ≡ records_of (events ++ more)
  pub torn : tail_of key file ≡ Torn

-- The book was opened of this disk under a key: where the file has the records of events that happened to a book of these
-- settings since its opening, and the disk told no lie, it keeps these. A file without a byte has no record.
abbrev pub IsOpened : {D : Type 0} {g : Ghosts D} → Settings → ℕ → D → KeptBook D g → Type 0
IsOpened {D} {g} s key disk kept =
    (events : List ChangeEvent)
    → AllHappen (opening_book s) events
    → recovered key (g.seen disk) ≡ records_of events
    → IsTrue (g.is_clean (disk_in kept)) → IsKept kept s events
