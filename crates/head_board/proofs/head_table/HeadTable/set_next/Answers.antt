use Rattle.std.proofs.Common.{rules}
use Rattle.upload_book.specs.Heads.{HeadPart}
use Rattle.upload_book.specs.TenantBook.{with_next}
use Rattle.head_board.proofs.BoundLemmas.{bounded-next}
use Rattle.head_board.proofs.TableLemmas.{heads-put, room-put, taken-next}
use Rattle.head_board.proofs.head_table.HeadTable.set_next.Goals as goal

pub returns-clause-there : goal.returns-clause-there
returns-clause-there c =
    rw (← c.self.view_is) (taken-next c.self.inside.settings c.self.inside.accounts c.self.inside.parts.items c.args.name.now c.from-tenant.result c.index_mut.result.now c.set_next.result (search rules) (search rules) c.index_mut.ensures.value c.set_next.ensures.there)

pub returns-clause-after : goal.returns-clause-after
returns-clause-after c =
    let f : HeadPart → HeadPart = λ part. with_next part c.args.name.now.id in
    rw (← c.self.view_is) (heads-put c.self.inside.settings c.self.inside.accounts c.self.inside.parts.items c.args.name.now.tenant c.from-tenant.result c.index_mut.result.now c.set_next.new.self f c.set_next.result (search rules) (search rules) c.index_mut.ensures.value c.set_next.ensures.after)

pub invariant_of-self : goal.invariant_of-self
invariant_of-self c =
    let f : HeadPart → HeadPart = λ part. with_next part c.args.name.now.id in
    record {
      room = room-put c.self.inside.settings.numbers.uploads c.self.inside.parts.items c.from-tenant.result c.index_mut.result.now c.set_next.new.self f c.set_next.result (search rules) c.index_mut.ensures.value c.set_next.ensures.after c.self.invariant.room;
      bound = bounded-next c.self.inside.first_end c.self.inside.parts.items c.from-tenant.result c.args.name.now.id c.index_mut.result.now c.set_next.new.self c.set_next.result (search rules) c.index_mut.ensures.value c.set_next.ensures.after c.self.invariant.bound;
    }
