use Rattle.std.proofs.Common.{ℕ, ◌<◌, slice_index}
use Rattle.tus_text_tests.proofs.PlainGroupLemmas.{value_of}
use Rattle.tus_text_tests.proofs.plain.value.is_group.Given as goal

-- symbols so far
abbrev pub invariant-loop-place : goal.invariant-loop-place
invariant-loop-place l = (k : ℕ) → k < l.place → value_of (slice_index l.group k) < 64
