use Rattle.std.proofs.Common.{length}
use Rattle.server_words.proofs.sentence.+is_named_again.Given as goal

abbrev pub decreases-is_named_again : goal.decreases-is_named_again
decreases-is_named_again l = length l.words.now
