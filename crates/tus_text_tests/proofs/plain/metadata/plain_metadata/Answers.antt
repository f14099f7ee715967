use Rattle.std.proofs.Common.{arith}
use Rattle.std.proofs.lemmas.Bool.Decides.{nat_tests}
use Rattle.tus_text.specs.Metadata.{is_metadata}
use Rattle.tus_text_tests.proofs.plain.metadata.plain_metadata.Goals as goal

pub returns-then-are_pairs : goal.returns-then-are_pairs
unfolding is_metadata
returns-then-are_pairs c = grind (arith, nat_tests)

pub returns-else-are_pairs : goal.returns-else-are_pairs
unfolding is_metadata
returns-else-are_pairs c = grind (arith, nat_tests)
