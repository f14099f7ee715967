use Rattle.std.proofs.Common.{arith, refl, ap}
use Rattle.unfinished_bodies.specs.Table.{held_in}
use Rattle.unfinished_bodies.proofs.TableLemmas.{kept-set}
use Rattle.unfinished_bodies.proofs.bodies.Unfinished.ask_to_cut.Goals as goal

pub invariant_of-self : goal.invariant_of-self
invariant_of-self c =
    kept-set c.self.inside.slots.slots c.self.inside.slots.capacity c.self.inside.most c.self.inside.entered c.self.inside.total c.self.inside.total
    c.self.inside.chains.heads.items c.self.inside.chains.older.items c.self.inside.chains.newer.items
    c.args.place.slot c.index_mut.result.now _ c.index_mut.ensures.value refl refl
    (omega (arith, c.self.invariant.small c.args.place.slot, ap held_in c.index_mut.ensures.value)) refl c.self.invariant
