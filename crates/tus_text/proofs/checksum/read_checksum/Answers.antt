use Rattle.std.proofs.Common.{arith}
use Rattle.std.proofs.lemmas.Grind.{common_steps}
use Rattle.tus_text.specs.Checksum.{checksum_of}
use Rattle.tus_text.proofs.checksum.read_checksum.Goals as goal

pub returns-then-is_empty : goal.returns-then-is_empty
unfolding checksum_of
returns-then-is_empty c = grind (arith, common_steps)

pub returns-in_err-read_digest : goal.returns-in_err-read_digest
unfolding checksum_of
returns-in_err-read_digest c = grind (arith, common_steps)

pub returns-then-eq : goal.returns-then-eq
unfolding checksum_of
returns-then-eq c = grind (arith, common_steps)

pub returns : goal.returns
unfolding checksum_of
returns c = grind (arith, common_steps)
