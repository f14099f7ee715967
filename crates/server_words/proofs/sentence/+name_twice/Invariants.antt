use Rattle.std.proofs.Common.{length}
use Rattle.server_words.proofs.sentence.+name_twice.Given as goal

abbrev pub decreases-name_twice : goal.decreases-name_twice
decreases-name_twice l = length l.words.now
