use Rattle.std.proofs.Common.{length}
use Rattle.tus_shared.proofs.work.+fn-work-join+arg2+work.Given as goal

abbrev pub decreases-join+arg2 : goal.decreases-join+arg2
decreases-join+arg2 g l = length l.others.now

abbrev pub decreases-work : goal.decreases-work
decreases-work g l = length l.batches.now
