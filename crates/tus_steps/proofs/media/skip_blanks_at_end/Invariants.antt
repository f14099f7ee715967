use Rattle.std.proofs.Common.{◌≡◌, length, reverse}
use Rattle.tus_steps.specs.Media.{skip_blanks as skipped}
use Rattle.tus_steps.proofs.media.skip_blanks_at_end.Given as goal

-- what is left to skip, seen from the end, is what was
abbrev pub invariant-loop-rest : goal.invariant-loop-rest
invariant-loop-rest l = skipped (reverse l.rest) ≡ skipped (reverse l.bytes)

abbrev pub decreases-loop-rest : goal.decreases-loop-rest
decreases-loop-rest l = length l.rest
