use Rattle.std.proofs.Common.{arith}
use Rattle.std.proofs.lemmas.Bool.Decides.{nat_tests}
use Rattle.std.proofs.lemmas.Grind.{common_steps}
use Rattle.tus_text.specs.Concat.{concat_of}
use Rattle.tus_text_tests.proofs.plain.concat.plain_concat.Goals as goal

pub returns-then-text-gt-CONCAT_MAX : goal.returns-then-text-gt-CONCAT_MAX
unfolding concat_of
returns-then-text-gt-CONCAT_MAX c = grind (arith, nat_tests)

pub returns-then-eq : goal.returns-then-eq
unfolding concat_of
returns-then-eq c = grind (arith, nat_tests)

pub returns-in_err-strip_prefix : goal.returns-in_err-strip_prefix
unfolding concat_of
returns-in_err-strip_prefix c = grind (arith, common_steps)

pub returns-in_err-parts : goal.returns-in_err-parts
unfolding concat_of
returns-in_err-parts c = grind (arith, common_steps)

pub returns : goal.returns
unfolding concat_of
returns c = grind (arith, common_steps)
