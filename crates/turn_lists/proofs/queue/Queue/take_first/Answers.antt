use Rattle.std.specs.VecDeque.{deque_capacity}
use Rattle.turn_lists.proofs.QueueLemmas.{queued-rest}
use Rattle.turn_lists.proofs.queue.Queue.take_first.Goals as goal

pub invariant_of-self : goal.invariant_of-self
invariant_of-self c =
    rw (c.pop_front.ensures.capacity, c.pop_front.ensures.rest)
    (queued-rest (deque_capacity c.self.inside.keys) c.self.inside.keys.items c.self.invariant)
