use Rattle.std.proofs.Common.{◌≡◌, ℕ, ◌+◌, ◌<◌, true, take, drop, get_or}
use Rattle.tus_text.specs.Metadata.{is_value}
use Rattle.tus_text_tests.proofs.PlainMetadataLemmas.{is_key}
use Rattle.tus_text_tests.proofs.plain.metadata.is_pair.Given as goal

-- no cut so far is into a key, a space and a value
abbrev pub invariant-loop-end : goal.invariant-loop-end
invariant-loop-end l = (k : ℕ) → k < l.end → is_key (take k l.pair) ≡ true → get_or l.pair k 0 ≡ 32 → is_value (drop (k + 1) l.pair) ≡ true → ⊥
