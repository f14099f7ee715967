use Rattle.std.proofs.Common.{◌∙◌, None, ap, arith, slice_index_or, sym}
use Rattle.std.specs.Prelude.{List, Option}
use Rattle.std.specs.Vec.{vec_len}
use Rattle.turn_lists.specs.declared.lists.TurnList.{TurnList}
use Rattle.turn_lists.proofs.KeptLemmas.{kept-put, no-list, put-new, put-stays, told-read}
use Rattle.turn_lists.proofs.lists.TurnLists.put.Goals as goal

pub returns-then-is_some-clause-after : goal.returns-then-is_some-clause-after
returns-then-is_some-clause-after c =
    rw (← c.self.view_is)
    (put-stays _ c.args.key c.args.list c.noted_at.result
    (told-read c.self.inside.stands.items c.deref.result.now c.self.inside.queues (vec_len c.self.inside.stands) c.args.key c.noted_at.result
    c.self.invariant c.deref.ensures.value c.noted_at.ensures)
    (sym c.is_some.ensures ∙ c.if-is_some.true))

pub invariant_of-self : goal.invariant_of-self
invariant_of-self c =
    let vacant = no-list c.noted_at.result (sym c.is_some.ensures ∙ c.if-is_some.false) in
    let there = ap (λ (stands : List (Option TurnList)). slice_index_or stands c.args.key None) (sym c.deref.ensures.value) ∙ sym c.noted_at.ensures ∙ vacant in
    rw c.put.ensures
    (kept-put c.self.inside.stands.items c.self.inside.queues c.args.list c.args.key c.self.invariant there (omega (arith, c.if-key-len.false, c.len.ensures)))

pub returns-clause-after : goal.returns-clause-after
returns-clause-after c =
    rw (c.put.ensures, ← c.self.view_is)
    (put-new (vec_len c.self.inside.stands) c.self.inside.queues c.args.key c.args.list c.noted_at.result
    (omega (arith, c.if-key-len.false, c.len.ensures))
    (told-read c.self.inside.stands.items c.deref.result.now c.self.inside.queues (vec_len c.self.inside.stands) c.args.key c.noted_at.result
    c.self.invariant c.deref.ensures.value c.noted_at.ensures)
    (sym c.is_some.ensures ∙ c.if-is_some.false))
