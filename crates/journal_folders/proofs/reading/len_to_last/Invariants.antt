use Rattle.journal_folders.proofs.TornLemmas.{IsTornSoFar}
use Rattle.journal_folders.proofs.reading.len_to_last.Given as goal

abbrev pub invariant-loop-place : goal.invariant-loop-place
invariant-loop-place l = IsTornSoFar l.bytes l.place l.len
