use Rattle.std.proofs.Common.{length}
use Rattle.tus_text_tests.proofs.plain.value.+is_base64.Given as goal

abbrev pub decreases-is_base64 : goal.decreases-is_base64
decreases-is_base64 l = length l.text.now
