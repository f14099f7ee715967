use Rattle.std.proofs.Common.{◌≡◌, refl, rules}
use Rattle.std.proofs.lemmas.Fn.{filter_same}
use Rattle.std.specs.VecDeque.{deque_capacity}
use Rattle.turn_lists.specs.Lists.{without_key}
use Rattle.turn_lists.proofs.QueueLemmas.{queued-without}
use Rattle.turn_lists.proofs.queue.Queue.remove.Goals as goal

pub left : (c : goal.After-retain) → c.retain.new.self.items ≡ without_key c.args.key c.self.inside.keys.items
left c = filter_same _ _ _ (λ x b f' k. search rules) _ _ c.retain.ensures.filtered

pub invariant_of-self : goal.invariant_of-self
invariant_of-self c =
    rw (c.retain.ensures.capacity, left c)
    (queued-without (deque_capacity c.self.inside.keys) c.args.key c.self.inside.keys.items c.self.invariant)

pub returns : goal.returns
returns c = rw (c.retain.ensures.capacity, left c, ← c.self.view_is) refl
