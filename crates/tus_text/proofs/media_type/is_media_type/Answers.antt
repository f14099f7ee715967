use Rattle.std.proofs.Common.{arith}
use Rattle.std.proofs.lemmas.Bool.Decides.{nat_tests}
use Rattle.tus_text.specs.MediaType.{is_media_type}
use Rattle.tus_text.proofs.media_type.is_media_type.Goals as goal

pub returns-then-joins_tokens-clause-value : goal.returns-then-joins_tokens-clause-value
unfolding is_media_type
returns-then-joins_tokens-clause-value c = grind (arith, nat_tests)

pub returns-else-joins_tokens-clause-value : goal.returns-else-joins_tokens-clause-value
unfolding is_media_type
returns-else-joins_tokens-clause-value c = grind (arith, nat_tests)
