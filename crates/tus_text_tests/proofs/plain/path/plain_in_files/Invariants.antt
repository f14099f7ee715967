use Rattle.std.proofs.Common.{ℕ, ◌<◌}
use Rattle.tus_text_tests.proofs.PlainLemmas.{IsCut}
use Rattle.tus_text_tests.proofs.plain.path.plain_in_files.Given as goal

-- no cut so far is into a tenant and a tail
abbrev pub invariant-loop-end : goal.invariant-loop-end
invariant-loop-end l = (k : ℕ) → k < l.end → IsCut l.text k → ⊥
