-- Why a journal can't be had, or failed.
use Rattle.std.specs.Prelude.{◌≡◌, ◌⊎◌, ℕ, List, codes, ⊤}
use Rattle.server_words.specs.declared.fault.RunFault.{RunFault}
use Rattle.server_words.specs.declared.fault.RunFault.TheVariants as run
use Rattle.server_words.specs.declared.journal_fault.JournalFault.{JournalFault}
use Rattle.server_words.specs.declared.journal_fault.JournalFault.TheVariants.{File, NoFolder, NoJournal, Busy, Settings, Damaged, Record, Disk, Upload}
use Rattle.server_words.specs.declared.journal_fault.Mismatch.TheVariants.{Missing, Unreadable}

-- the word that names it
abbrev pub journal_word : JournalFault → List ℕ
journal_word File = codes "file"
journal_word NoFolder = codes "file"
journal_word NoJournal = codes "file"
journal_word Busy = codes "busy"
journal_word (Settings why) = codes "settings"
journal_word (Damaged at len) = codes "damaged"
journal_word (Record number) = codes "record"
journal_word Disk = codes "disk"
journal_word (Upload why) = codes "upload"

-- a fault of a journal, or that memory was lacking
abbrev pub IsOfJournal : RunFault → Type 0
IsOfJournal run.Words = ⊥
IsOfJournal run.Address = ⊥
IsOfJournal run.Ports = ⊥
IsOfJournal (run.Settings why) = ⊥
IsOfJournal (run.Wire cause) = ⊥
IsOfJournal (run.Journal why) = ⊤
IsOfJournal run.Memory = ⊤

-- a call of the system failed where settings are read or put, or memory was lacking
abbrev pub IsOfSystem : RunFault → Type 0
IsOfSystem fault = (fault ≡ run.Journal Disk) ⊎ (fault ≡ run.Memory)

-- the files of a journal were not read
abbrev pub IsUnread : RunFault → Type 0
IsUnread (run.Journal NoJournal) = ⊤
IsUnread (run.Journal (Settings Missing)) = ⊤
IsUnread (run.Journal (Settings Unreadable)) = ⊤
IsUnread (run.Journal Disk) = ⊤
IsUnread run.Memory = ⊤
IsUnread fault = ⊥
