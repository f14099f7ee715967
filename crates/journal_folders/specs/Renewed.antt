-- How a journal gets other settings: it is put back as a snapshot of the book that it makes.
use Rattle.std.specs.Prelude.{◌≡◌, ◌⊎◌, ℕ, List, Some, Result, Ok, Err}
use mathlib.Core.List.{IsPrefix}
use Rattle.book_replay.specs.Replay.{replayed}
use Rattle.book_replay.specs.Snapshot.{snapshot_records}
use Rattle.std.specs.List.{AllByRecursion}
use Rattle.journal_frames.specs.Frames.{Fits, frames}
use Rattle.upload_book.specs.PlainBook.{PlainBook, opening_book}
use Rattle.upload_book.specs.Settings.{Settings}
use Rattle.server_words.specs.JournalFault.{IsOfSystem, IsUnread}
use Rattle.server_words.specs.MayFollow.{difference_in, names_of, renewing_difference}
use Rattle.server_words.specs.declared.difference.Difference.{Difference}
use Rattle.server_words.specs.declared.fault.RunFault.{RunFault}
use Rattle.server_words.specs.declared.fault.RunFault.TheVariants as run
use Rattle.server_words.specs.declared.journal_fault.JournalFault.TheVariants as why
use Rattle.server_words.specs.declared.journal_fault.Mismatch.TheVariants.{Differs, TooSmall}
use Rattle.server_words.specs.declared.shortage.Shortage.{Shortage}
use Rattle.journal_folders.specs.JournalSettings.{Gives}
use Rattle.journal_folders.specs.ReadJournal.{IsFaultOfFiles, Makes, journal_key}
use Rattle.journal_folders.specs.Shortage.{IsShort}

-- of the files of a journal, which are the bytes of its own and the text of the settings beside it
module _ (journal settings : List ℕ) where
  -- the bytes are the frames of the snapshot of the book that the files make
  pub record IsSnapshotOf (bytes : List ℕ) : Type 0 where
    pub book : PlainBook
    pub makes : Makes journal settings (Ok book)
    pub frames_are : bytes ≡ frames journal_key (snapshot_records 0 book)
    pub fit : AllByRecursion Fits (snapshot_records 0 book)

  -- for these settings
  module _ (new : Settings) where
    -- each tenant of the journal has its place in the new settings, by its name
    pub record HaveTheirPlaces : Type 0 where
      pub old : Settings
      pub gives : Gives settings (Some old)
      pub places : IsPrefix (names_of old) (names_of new)

    -- such bytes, of whose records a book of the new settings is made
    pub record IsRenewed (bytes : List ℕ) : Type 0 where
      pub tenants : HaveTheirPlaces
      pub snapshot : IsSnapshotOf bytes
      pub after : PlainBook
      pub replays : replayed 1 (opening_book new) (snapshot_records 0 snapshot.book) ≡ Ok after

    -- finished uploads stay by the new settings and end by themselves in the journal, or a tenant of it has not its place there
    pub record IsMoved (difference : Difference) : Type 0 where
      pub old : Settings
      pub gives : Gives settings (Some old)
      pub differs : renewing_difference old new ≡ Some (difference_in difference)

    -- more stands in the book than the new settings allow
    pub record IsTooSmall (shortage : Shortage) : Type 0 where
      pub book : PlainBook
      pub makes : Makes journal settings (Ok book)
      pub short : IsShort book new shortage

    -- no book of the new settings takes the record of this number of the snapshot
    pub record IsNotTaken (number : ℕ) : Type 0 where
      pub book : PlainBook
      pub makes : Makes journal settings (Ok book)
      pub replays : replayed 1 (opening_book new) (snapshot_records 0 book) ≡ Err number

    -- why there is no such snapshot: the files are wrong, or memory was lacking; or one of these
    abbrev pub IsNotRenewed : RunFault → Type 0
    IsNotRenewed fault =
        IsFaultOfFiles journal settings fault
        ⊎ ((difference : Difference) × (fault ≡ run.Journal (why.Settings (Differs difference))) × IsMoved difference)
        ⊎ ((shortage : Shortage) × (fault ≡ run.Journal (why.Settings (TooSmall shortage))) × IsTooSmall shortage)
        ⊎ ((number : ℕ) × (fault ≡ run.Journal (why.Record number)) × IsNotTaken number)

-- Why a journal was not put back under new settings, by what comes of reading its folder: a call of the system failed, or
-- memory was lacking; or its files were not read; or they were, and there is no such snapshot of them.
abbrev pub IsFaultOfRenewing : (Result (List ℕ × List ℕ) RunFault → Type 0) → Settings → RunFault → Type 0
IsFaultOfRenewing Finds new fault =
    IsOfSystem fault
    ⊎ (IsUnread fault × Finds (Err fault))
    ⊎ ((journal settings : List ℕ) × Finds (Ok (journal, settings)) × IsNotRenewed journal settings new fault)
