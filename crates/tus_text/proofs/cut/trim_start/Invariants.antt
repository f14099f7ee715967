use Rattle.std.proofs.Common.{◌≡◌, length}
use Rattle.tus_text.specs.Cut.{skip_spaces}
use Rattle.tus_text.proofs.cut.trim_start.Given as goal

abbrev pub invariant-loop-text : goal.invariant-loop-text
invariant-loop-text l = skip_spaces l.text ≡ skip_spaces l.fn.text

abbrev pub decreases-loop-text : goal.decreases-loop-text
decreases-loop-text l = length l.text
