-- What faults of a journal's file and of its records are to the program.
use Rattle.book_replay.specs.declared.fault.ReplayFault.{ReplayFault}
use Rattle.book_replay.specs.declared.fault.ReplayFault.TheVariants as replay
use Rattle.journal_file.specs.declared.error.Damage.{Damage}
use Rattle.journal_file.specs.declared.error.JournalError.{JournalError}
use Rattle.journal_file.specs.declared.error.JournalError.TheVariants as error
use Rattle.kept_book.specs.declared.fault.OpenFault.{OpenFault}
use Rattle.kept_book.specs.declared.fault.OpenFault.TheVariants as opening
use Rattle.sqlite_std_file.specs.declared.pair.OpenError.{OpenError}
use Rattle.sqlite_std_file.specs.declared.pair.OpenError.TheVariants as file
use Rattle.server_words.specs.declared.fault.RunFault.{RunFault}
use Rattle.server_words.specs.declared.fault.RunFault.TheVariants as run
use Rattle.server_words.specs.declared.journal_fault.JournalFault.TheVariants.{File, Busy, Damaged, Record, Disk}

-- what it is to the program that a file could not be opened or made
abbrev pub fault_of_file : OpenError → RunFault
fault_of_file (file.Io error) = run.Journal File
fault_of_file file.OutOfMemory = run.Memory
fault_of_file file.Busy = run.Journal Busy
fault_of_file file.HotJournal = run.Journal File

-- what the damage of a journal's file is to the program
abbrev pub fault_of_damage : Damage → RunFault
fault_of_damage damage = run.Journal (Damaged damage.at damage.len)

-- what an error of a journal is to the program
abbrev pub fault_of_journal : JournalError → RunFault
fault_of_journal error.Memory = run.Memory
fault_of_journal (error.Damaged damage) = fault_of_damage damage
fault_of_journal _ = run.Journal Disk

-- what it is to the program that no book was made of records
abbrev pub fault_of_replay : ReplayFault → RunFault
fault_of_replay (replay.Record number) = run.Journal (Record number)
fault_of_replay replay.Memory = run.Memory

-- what it is to the program that a kept book could not be opened
abbrev pub fault_of_kept : OpenFault → RunFault
fault_of_kept (opening.Journal why) = fault_of_journal why
fault_of_kept (opening.Replay why) = fault_of_replay why
fault_of_kept opening.Memory = run.Memory
