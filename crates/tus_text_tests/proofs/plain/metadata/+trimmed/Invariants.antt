use Rattle.std.proofs.Common.{length}
use Rattle.tus_text_tests.proofs.plain.metadata.+trimmed.Given as goal

abbrev pub decreases-trimmed : goal.decreases-trimmed
decreases-trimmed l = length l.text.now
