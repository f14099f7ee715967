-- What faults of a connection and of an opening are to the program.
use Rattle.http_wire.specs.declared.fault.WireFault.{WireFault}
use Rattle.http_wire.specs.declared.fault.WireFault.TheVariants as wire
use Rattle.journal_keeper.specs.declared.fault.ReopenFault.{ReopenFault}
use Rattle.journal_keeper.specs.declared.fault.ReopenFault.TheVariants as reopening
use Rattle.tus_shared.specs.declared.open_fault.OpenFault.{OpenFault}
use Rattle.tus_shared.specs.declared.open_fault.OpenFault.TheVariants as opening
use Rattle.server_words.specs.declared.cause.Cause.TheVariants.{Input, Output}
use Rattle.server_words.specs.declared.fault.RunFault.{RunFault}
use Rattle.server_words.specs.declared.fault.RunFault.TheVariants.{Words, Wire, Journal, Memory}
use Rattle.server_words.specs.declared.journal_fault.JournalFault.TheVariants.{Record, Disk}

-- what a fault of the connection is to the program
abbrev pub fault_of_wire : WireFault → RunFault
fault_of_wire wire.Read = Wire Input
fault_of_wire wire.Write = Wire Output
fault_of_wire wire.Failed = Wire Output
fault_of_wire wire.Memory = Memory

-- what a fault of an opening is to the program: a number of workers that no command line gives, or memory
abbrev pub fault_of_opening : OpenFault → RunFault
fault_of_opening opening.Desks = Words
fault_of_opening opening.Memory = Memory
fault_of_opening opening.Board = Memory

-- what it is to the program that the changes of a journal's records could not be made again; that records wait comes in no run
abbrev pub fault_of_reopening : ReopenFault → RunFault
fault_of_reopening (reopening.Record number) = Journal (Record number)
fault_of_reopening reopening.Memory = Memory
fault_of_reopening reopening.Waiting = Journal Disk
