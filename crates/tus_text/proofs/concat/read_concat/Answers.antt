use Rattle.std.proofs.Common.{arith}
use Rattle.std.proofs.lemmas.Bool.Decides.{nat_tests}
use Rattle.std.proofs.lemmas.Grind.{common_steps}
use Rattle.tus_text.specs.Concat.{concat_of}
use Rattle.tus_text.proofs.concat.read_concat.Goals as goal

pub returns-then-text-gt-CONCAT_MAX-clause-value : goal.returns-then-text-gt-CONCAT_MAX-clause-value
unfolding concat_of
returns-then-text-gt-CONCAT_MAX-clause-value c = grind (arith, nat_tests)

pub returns-then-eq-clause-value : goal.returns-then-eq-clause-value
unfolding concat_of
returns-then-eq-clause-value c = grind (arith, nat_tests)

pub returns-in_err-strip_prefix-clause-value : goal.returns-in_err-strip_prefix-clause-value
unfolding concat_of
returns-in_err-strip_prefix-clause-value c = grind (arith, common_steps)

pub returns-in_err-parts-clause-value : goal.returns-in_err-parts-clause-value
unfolding concat_of
returns-in_err-parts-clause-value c = grind (arith, common_steps)

pub returns-clause-value : goal.returns-clause-value
unfolding concat_of
returns-clause-value c = grind (arith, common_steps)
