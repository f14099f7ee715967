-- The words of faults.
use Rattle.std.specs.Prelude.{ℕ, List, codes}
use Rattle.tus_shared.specs.declared.again_fault.AgainFault.{AgainFault}
use Rattle.tus_shared.specs.declared.again_fault.AgainFault.TheVariants as again
use Rattle.tus_shared.specs.declared.open_fault.OpenFault.{OpenFault}
use Rattle.tus_shared.specs.declared.open_fault.OpenFault.TheVariants.{Board, Desks, Memory}
use Rattle.tus_shared.specs.declared.work_fault.WorkFault.{WorkFault}
use Rattle.tus_shared.specs.declared.work_fault.WorkFault.TheVariants as work

-- the word that names a fault of an opening
abbrev pub open_fault_word : OpenFault → List ℕ
open_fault_word Desks = codes "desks"
open_fault_word Memory = codes "memory"
open_fault_word Board = codes "board"

-- the word that names a fault of a batch
abbrev pub work_fault_word : WorkFault → List ℕ
work_fault_word work.Memory = codes "memory"

-- the word that names why a change is not made again
abbrev pub again_fault_word : AgainFault → List ℕ
again_fault_word again.Waiting = codes "waiting"
again_fault_word again.Change = codes "change"
again_fault_word (again.Refused why) = codes "refused"
