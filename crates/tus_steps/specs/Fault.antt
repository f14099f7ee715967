-- The words of faults.
use Rattle.std.specs.Prelude.{ℕ, List, codes}
use Rattle.tus_steps.specs.declared.run_fault.RunFault.{RunFault}
use Rattle.tus_steps.specs.declared.run_fault.RunFault.TheVariants.{Memory}

-- the word that names a fault of a run
abbrev pub run_fault_word : RunFault → List ℕ
run_fault_word Memory = codes "memory"
