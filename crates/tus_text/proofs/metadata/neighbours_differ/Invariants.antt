use Rattle.std.proofs.Common.{ℕ, ◌+◌, ◌<◌}
use Rattle.tus_text.proofs.DistinctLemmas.{DifferAt}
use Rattle.tus_text.proofs.metadata.neighbours_differ.Given as goal

-- the neighbours so far differ
abbrev pub invariant-loop-later : goal.invariant-loop-later
invariant-loop-later l = (k : ℕ) → k + 1 < l.later → DifferAt l.keys k (k + 1)
