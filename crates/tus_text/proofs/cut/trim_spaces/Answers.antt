use Rattle.std.proofs.Common.{rules, arith}
use Rattle.std.proofs.lemmas.Grind.{common_steps}
use Rattle.tus_text.specs.Cut.{trim_spaces}
use Rattle.tus_text.proofs.cut.trim_spaces.Goals as goal

pub returns : goal.returns
unfolding trim_spaces
returns c = first_of (search rules, grind (arith, common_steps))
