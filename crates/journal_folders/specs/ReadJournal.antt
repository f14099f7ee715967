-- What is made of the files of a journal: the bytes of its own, and the text of the settings beside it.
use Rattle.std.specs.Prelude.{◌≡◌, ◌≢◌, ◌⊎◌, ℕ, true, false, ◌-◌, ◌<◌, ◌≤◌, List, [], ◌++◌, length, drop, take, slice_index, Some, Result, Ok, Err, codes, decimal, ⊤}
use Rattle.book_replay.specs.Replay.{replayed}
use Rattle.journal_file.specs.JournalError.{IsDamagedAt}
use Rattle.journal_file.specs.declared.recovered.WholeFrames.{WholeFrames}
use Rattle.journal_frames.specs.Crash.{IsTornTail}
use Rattle.journal_frames.specs.Frames.{frames, recovered}
use Rattle.upload_book.specs.PlainBook.{PlainBook, opening_book}
use Rattle.upload_book.specs.Settings as given
use Rattle.journal_folders.specs.Held.{IsHeldIn}
use Rattle.server_words.specs.JournalFault.{IsUnread}
use Rattle.journal_folders.specs.StreamUse.{WritesOrFails}
use Rattle.journal_folders.specs.StreamUse.{StreamUse, IsUntouched}
use Rattle.server_words.specs.declared.cause.Cause.TheVariants.{Output}
use Rattle.server_words.specs.declared.fault.RunFault.{RunFault}
use Rattle.server_words.specs.declared.fault.RunFault.TheVariants as run
use Rattle.server_words.specs.declared.journal_fault.JournalFault.{JournalFault}
use Rattle.server_words.specs.declared.journal_fault.JournalFault.TheVariants as why
use Rattle.server_words.specs.declared.journal_fault.Mismatch.TheVariants.{Unreadable}
use Rattle.journal_folders.specs.JournalSettings.{Gives, GivesNone, GivesSome}
use Rattle.journal_folders.specs.declared.held.Held.{Held}

-- the key under which the program's journals are: the letters of `tus-jour` as a number
abbrev pub journal_key : ℕ
journal_key = 8391740119571199346

-- The text gives settings, and of a book of these the records of the file make this: a book, or the number of the first record
-- that none takes.
pub record Makes (journal settings : List ℕ) (made : Result PlainBook ℕ) : Type 0 where
  pub of : given.Settings
  pub gives : Gives settings (Some of)
  pub replays : replayed 1 (opening_book of) (recovered journal_key journal) ≡ made

-- How many whole frames stand first in the file, and how many bytes these have. The file is not damaged: behind them stands
-- what a crash may leave, or it has no byte.
pub record IsReadTo (journal : List ℕ) (found : WholeFrames) : Type 0 where
  pub count : found.count ≡ length (recovered journal_key journal)
  pub end : found.end ≡ length (frames journal_key (recovered journal_key journal))
  pub tail : (journal ≡ []) ⊎ IsTornTail journal_key (drop found.end journal)

-- the file is that of a journal which is not damaged
abbrev pub IsWhole : List ℕ → Type 0
IsWhole journal = (found : WholeFrames) × IsReadTo journal found

-- What is wrong with the files, where all that comes before it is right: the settings, then the frames of the file, then their
-- records. A file without a byte is that of a journal that has just begun.
abbrev pub IsWrongWith : List ℕ → List ℕ → JournalFault → Type 0
IsWrongWith journal settings (why.Settings what) = (what ≡ Unreadable) × GivesNone settings
IsWrongWith journal settings (why.Damaged at len) =
    GivesSome settings × (journal ≢ []) × IsDamagedAt journal_key journal (record { at = at; len = len })
IsWrongWith journal settings (why.Record number) = IsWhole journal × Makes journal settings (Err number)
IsWrongWith journal settings fault = ⊥

-- why no book is made of the files: one of them is wrong, or memory was lacking
abbrev pub IsFaultOfFiles : List ℕ → List ℕ → RunFault → Type 0
IsFaultOfFiles journal settings (run.Journal fault) = IsWrongWith journal settings fault
IsFaultOfFiles journal settings run.Memory = ⊤
IsFaultOfFiles journal settings fault = ⊥

-- behind the first of these bytes, so many, stand zeros alone, and the last of the first ones is none
pub record IsUpToLast (bytes : List ℕ) (len : ℕ) : Type 0 where
  pub within : len ≤ length bytes
  pub last : 0 < len → slice_index bytes (len - 1) ≢ 0
  pub zeros : (i : ℕ) → len ≤ i → i < length bytes → slice_index bytes i ≡ 0

-- What a crash has left of a record: nothing where 16 zeros stand, and else all up to the last byte that is not 0. Behind the
-- zeros a file may have bytes of a longer journal, which it was before.
pub record IsTornTo (tail : List ℕ) (torn : ℕ) : Type 0 where
  pub blank : IsUpToLast (take 16 tail) 0 → torn ≡ 0
  pub left : ¬ (IsUpToLast (take 16 tail) 0) → IsUpToLast tail torn

-- The line of `journal check`: how many records the journal has, what their book holds, how many bytes the file has, how many
-- of these are of the records, and how many a crash has left behind them.
abbrev pub checked_text : ℕ → Held → ℕ → ℕ → ℕ → List ℕ
checked_text records held len end torn =
    decimal records ++ codes " records, " ++ decimal held.uploads ++ codes " uploads, " ++ decimal held.bytes ++ codes " bytes; file: "
    ++ decimal len ++ codes " bytes, " ++ decimal end ++ codes " of records, " ++ decimal torn ++ codes " torn\n"

-- the line tells of the bytes of a journal's file, of which these are whole frames, and of what the book holds that they make
pub record IsLineOf (journal : List ℕ) (found : WholeFrames) (book : PlainBook) (line : List ℕ) : Type 0 where
  pub torn : ℕ
  pub tail : IsTornTo (drop found.end journal) torn
  pub held : Held
  pub holds : IsHeldIn book held
  pub line_is : line ≡ checked_text found.count held (length journal) found.end torn

-- the line tells of these files, of which a book is made
pub record IsChecked (journal settings line : List ℕ) : Type 0 where
  pub book : PlainBook
  pub made : Makes journal settings (Ok book)
  pub found : WholeFrames
  pub read : IsReadTo journal found
  pub tells : IsLineOf journal found book line

-- A command that looks into a journal: by what comes of reading its folder, which is the bytes of the journal's file and the
-- text of the settings beside it, or a fault; what a text has to tell of these files; and why there is none.
module _ {W : Type 0} (Finds : Result (List ℕ × List ℕ) RunFault → Type 0) (Tells : List ℕ → List ℕ → List ℕ → Type 0) (Lacks : List ℕ → List ℕ → RunFault → Type 0) (writer : StreamUse W) where
  -- the files were read, and this text of them was written, or where the stream has failed a prefix of it
  pub record Shows : Type 0 where
    pub journal : List ℕ
    pub settings : List ℕ
    pub finds : Finds (Ok (journal, settings))
    pub text : List ℕ
    pub tells : Tells journal settings text
    pub written : WritesOrFails writer.before writer.after writer.has_failed text

  -- the files were read, and this is wrong with them
  pub record Refuses (fault : RunFault) : Type 0 where
    pub journal : List ℕ
    pub settings : List ℕ
    pub finds : Finds (Ok (journal, settings))
    pub lacks : Lacks journal settings fault

  -- How the command ends: its text was written, or standard output has failed; or nothing was written, and the files were not
  -- read, or this is wrong with them.
  abbrev pub LookEnds : {T : Type 0} → Result T RunFault → Type 0
  LookEnds (Ok _) = Shows × (writer.has_failed ≡ false)
  LookEnds (Err (run.Wire cause)) = Shows × (writer.has_failed ≡ true) × (cause ≡ Output)
  LookEnds (Err fault) = IsUntouched writer × ((IsUnread fault × Finds (Err fault)) ⊎ Refuses fault)
