use Rattle.std.proofs.Common.{◌≡◌, length}
use Rattle.tus_steps.specs.Media.{skip_blanks as skipped}
use Rattle.tus_steps.proofs.media.skip_blanks.Given as goal

-- what is left to skip is what was
abbrev pub invariant-loop-rest : goal.invariant-loop-rest
invariant-loop-rest l = skipped l.rest ≡ skipped l.bytes

abbrev pub decreases-loop-rest : goal.decreases-loop-rest
decreases-loop-rest l = length l.rest
