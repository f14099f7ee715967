use Rattle.std.proofs.Common.{ℕ, ◌<◌}
use Rattle.tus_text_tests.proofs.PlainLemmas.{IsOriginCut}
use Rattle.tus_text_tests.proofs.plain.path.plain_path.Given as goal

-- no cut so far is into an origin and `/files/`, a tenant and a tail
abbrev pub invariant-loop-end : goal.invariant-loop-end
invariant-loop-end l = (k : ℕ) → k < l.end → IsOriginCut l.target k → ⊥
