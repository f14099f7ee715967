-- How a run ends whose words are taken.
use Rattle.std.proofs.Common.{◌≡◌, ℕ, Bool, List, [], Option, Result, subst}
use Rattle.clap.specs.Walk.{Row}
use Rattle.clap.specs.Words.{Text}
use Rattle.server_words.specs.Arguments.{arguments_entered}
use Rattle.server_words.specs.CommandLine.{command_in, faults_in}
use Rattle.journal_folders.specs.StreamUse.{StreamUse}
use Rattle.server_words.specs.declared.fault.RunFault.{RunFault}
use Rattle.tus_program.specs.Run.{Performs, RunEnds, performed}
use Rattle.tus_program.specs.Sockets.{Sockets}

-- the command that was found in the words was done
pub RunEnds-performed : {L A D R W E : Type 0} (seen : Sockets L A) (read : D → List ℕ) (may_leave : D → List ℕ → Type 0) (is_clean : D → Bool) (finds : List ℕ → Result (List ℕ × List ℕ) RunFault → Type 0) (watched : Bool) (status : ℕ) (reader : StreamUse R) (writer : StreamUse W) (errors : StreamUse E) (words : List Text) (entered : Option (Text × List Row)) → faults_in words ≡ []
    → entered ≡ command_in words → Performs seen read may_leave is_clean finds watched status reader writer errors (arguments_entered entered) → RunEnds seen read may_leave is_clean finds watched status reader writer errors words
RunEnds-performed seen read may_leave is_clean finds watched status reader writer errors words entered taken found h =
    performed taken (subst (λ entered. Performs seen read may_leave is_clean finds watched status reader writer errors (arguments_entered entered)) found h)
