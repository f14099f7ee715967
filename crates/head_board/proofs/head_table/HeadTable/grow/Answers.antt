use Rattle.std.proofs.Common.{rules}
use Rattle.head_board.proofs.BoundLemmas.{bounded-grown, bounded-put, bounded-read}
use Rattle.head_board.proofs.TableLemmas.{heads-grown, room-grown}
use Rattle.head_board.proofs.head_table.HeadTable.grow.Goals as goal

pub returns-clause-there : goal.returns-clause-there
returns-clause-there c =
    rw (← c.self.view_is) (heads-grown c.self.inside.settings c.self.inside.accounts c.self.inside.parts.items c.args.name.now c.args.growth.now c.from-tenant.result c.index_mut.result.now c.grow.new.self (search rules) (search rules) c.index_mut.ensures.value c.grow.result c.grow.ensures).0

pub returns-clause-after : goal.returns-clause-after
returns-clause-after c =
    rw (← c.self.view_is) (heads-grown c.self.inside.settings c.self.inside.accounts c.self.inside.parts.items c.args.name.now c.args.growth.now c.from-tenant.result c.index_mut.result.now c.grow.new.self (search rules) (search rules) c.index_mut.ensures.value c.grow.result c.grow.ensures).1

pub invariant_of-self : goal.invariant_of-self
invariant_of-self c = record {
  room = room-grown c.self.inside.settings c.self.inside.accounts c.self.inside.parts.items c.args.name.now c.args.growth.now c.from-tenant.result c.index_mut.result.now c.grow.new.self (search rules) (search rules) c.index_mut.ensures.value c.self.inside.settings.numbers.uploads c.grow.result c.grow.ensures c.self.invariant.room;
  bound = rw c.earlier-self-inside.ensures (bounded-put c.self.inside.first_end c.args.growth.now.expires c.self.inside.parts.items c.from-tenant.result c.grow.new.self
      (bounded-grown c.self.inside.first_end c.index_mut.result.now c.grow.new.self c.args.name.now.id c.args.growth.now c.grow.result c.grow.ensures (bounded-read c.self.inside.first_end c.self.inside.parts.items c.from-tenant.result c.index_mut.result.now (search rules) c.index_mut.ensures.value c.self.invariant.bound))
      c.self.invariant.bound);
}
