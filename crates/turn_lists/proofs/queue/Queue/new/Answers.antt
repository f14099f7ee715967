use Rattle.std.proofs.Common.{subst, sym}
use Rattle.turn_lists.specs.inside.KeyQueues.{AreQueued}
use Rattle.turn_lists.proofs.QueueLemmas.{queued-none}
use Rattle.turn_lists.proofs.queue.Queue.new.Goals as goal

pub invariant_of-result : goal.invariant_of-result
invariant_of-result c = subst (AreQueued _) (sym c.in_ok-with_capacity.ensures.items) (queued-none _)
