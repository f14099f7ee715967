use Rattle.std.proofs.Common.{length}
use Rattle.book_replay.proofs.fitting.+tell_ids.Given as goal

abbrev pub decreases-tell_ids : goal.decreases-tell_ids
decreases-tell_ids l = length l.ids.now
