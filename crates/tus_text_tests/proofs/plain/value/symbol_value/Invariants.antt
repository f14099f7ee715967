use Rattle.std.proofs.Common.{◌≡◌, ℕ, ◌<◌}
use Rattle.tus_text_tests.proofs.PlainGroupLemmas.{symbol_of}
use Rattle.tus_text_tests.proofs.plain.value.symbol_value.Given as goal

-- no value so far is the symbol's
abbrev pub invariant-loop-value : goal.invariant-loop-value
invariant-loop-value l = (k : ℕ) → k < l.value → symbol_of k ≡ l.symbol → ⊥
