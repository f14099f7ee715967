use Rattle.std.proofs.Common.{◌≡◌, ◌≤◌, arith, rules, refl, sym, ◌∙◌, ap}
use Rattle.unfinished_bodies.specs.Table.{in_slot}
use Rattle.unfinished_bodies.specs.declared.bodies.Entry.{Entry}
use Rattle.unfinished_bodies.proofs.TableLemmas.{kept-set, sum-fits, found-in-slot, held-le-all}
use Rattle.unfinished_bodies.proofs.bodies.Unfinished.hold.Goals as goal

pub overflow_add-self : goal.overflow_add-self
overflow_add-self c =
    let h = sum-fits _ _ _ _ _ c.args.held _ _ _ c.self.invariant (search rules) in omega (arith, h, c.from-in-Some.ensures)

pub invariant_of-self : goal.invariant_of-self
invariant_of-self c =
    let found = found-in-slot (in_slot c.self.inside.slots.slots c.args.place.slot) c.args.place.number c.in-Some.entry (sym c.find.ensures ∙ c.in-Some.is) in
    let same : c.in-Some.entry ≡ c.index_mut.result.now = cc (found.0, c.index_mut.ensures.value) in
    let bytes : c.in-Some.entry.body.held ≡ c.index_mut.result.now.body.held = ap (λ (e : Entry). e.body.held) same in
    let enough : c.index_mut.result.now.body.held ≤ c.self.inside.total =
    omega (arith, c.self.invariant.held, held-le-all c.self.inside.slots.slots c.args.place.slot c.index_mut.result.now c.index_mut.ensures.value) in
    kept-set c.self.inside.slots.slots c.self.inside.slots.capacity c.self.inside.most c.self.inside.entered c.self.inside.total _
    c.self.inside.chains.heads.items c.self.inside.chains.older.items c.self.inside.chains.newer.items
    c.args.place.slot c.index_mut.result.now _ c.index_mut.ensures.value refl refl (search rules)
    (omega (arith, enough, bytes, c.from.ensures, c.from-in-Some.ensures)) c.self.invariant
