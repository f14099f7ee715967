use Rattle.std.proofs.Common.{◌∙◌, None, ap, slice_index_or, sym}
use Rattle.std.specs.Prelude.{List, Option}
use Rattle.std.specs.Vec.{vec_len}
use Rattle.turn_lists.specs.declared.lists.TurnList.{TurnList}
use Rattle.turn_lists.proofs.KeptLemmas.{kept-left, left-new, none-left, told-read}
use Rattle.turn_lists.proofs.lists.TurnLists.leave.Goals as goal

pub returns-in_default : goal.returns-in_default
returns-in_default c =
    rw (← c.self.view_is)
    (none-left _ c.args.key
    (told-read c.self.inside.stands.items c.deref.result.now c.self.inside.queues (vec_len c.self.inside.stands) c.args.key c.noted_at.result
    c.self.invariant c.deref.ensures.value c.noted_at.ensures ∙ c.in_default.is))

pub invariant_of-self : goal.invariant_of-self
invariant_of-self c =
    let there = ap (λ (stands : List (Option TurnList)). slice_index_or stands c.args.key None) (sym c.deref.ensures.value) ∙ sym c.noted_at.ensures ∙ c.in-Some.is in
    rw c.remove.ensures
    (kept-left c.self.inside.stands.items c.self.inside.queues c.in-Some.list c.args.key c.self.invariant there)

pub returns : goal.returns
returns c =
    rw (c.remove.ensures, ← c.self.view_is)
    (left-new (vec_len c.self.inside.stands) c.self.inside.queues c.args.key c.in-Some.list
    (told-read c.self.inside.stands.items c.deref.result.now c.self.inside.queues (vec_len c.self.inside.stands) c.args.key c.noted_at.result
    c.self.invariant c.deref.ensures.value c.noted_at.ensures ∙ c.in-Some.is))
