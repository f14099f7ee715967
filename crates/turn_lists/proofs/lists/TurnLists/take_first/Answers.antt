use Rattle.std.proofs.Common.{◌∙◌, arith, sym}
use Rattle.turn_lists.proofs.KeptLemmas.{kept-empty, kept-first}
use Rattle.turn_lists.proofs.lists.TurnLists.take_first.Goals as goal

pub invariant_of-self : goal.invariant_of-self
invariant_of-self c =
    rw c.take_first.ensures.rest
    (kept-empty c.self.inside.stands.items c.self.inside.queues c.args.list c.self.invariant (sym c.take_first.ensures.first ∙ c.in_err-key.was))

pub index_mut-requires : goal.index_mut-requires
index_mut-requires c =
    let first = kept-first c.self.inside.stands.items c.self.inside.queues c.args.list c.in_ok-key.key c.self.invariant (sym c.take_first.ensures.first ∙ c.in_ok-key.was) in
    omega (arith, first.0)

pub invariant_of-self-2 : goal.invariant_of-self-2
invariant_of-self-2 c =
    let first = kept-first c.self.inside.stands.items c.self.inside.queues c.args.list c.in_ok-key.key c.self.invariant (sym c.take_first.ensures.first ∙ c.in_ok-key.was) in
    rw c.take_first.ensures.rest first.1
