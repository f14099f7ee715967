use Rattle.std.proofs.Common.{arith, rules}
use Rattle.std.specs.VecDeque.{deque_capacity}
use Rattle.turn_lists.proofs.QueueLemmas.{queued-put, room-left}
use Rattle.turn_lists.proofs.queue.Queue.put.Goals as goal

pub push_back_reserved-requires : goal.push_back_reserved-requires
push_back_reserved-requires c =
    let room = room-left (deque_capacity c.self.inside.keys) c.self.inside.keys.items c.args.key c.self.invariant (search rules) (search rules) in
    omega (arith, room)

pub invariant_of-self : goal.invariant_of-self
invariant_of-self c =
    rw (c.push_back_reserved.ensures.capacity, c.push_back_reserved.ensures.items)
    (queued-put (deque_capacity c.self.inside.keys) c.self.inside.keys.items c.args.key c.self.invariant (search rules) (search rules))
