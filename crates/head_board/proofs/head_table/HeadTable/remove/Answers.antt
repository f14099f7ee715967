use Rattle.std.proofs.Common.{rules, true}
use Rattle.upload_book.specs.Heads.{HeadPart}
use Rattle.upload_book.specs.Terminate.{without}
use Rattle.head_board.proofs.BoundLemmas.{bounded-removed}
use Rattle.head_board.proofs.TableLemmas.{heads-put, room-put}
use Rattle.head_board.proofs.head_table.HeadTable.remove.Goals as goal

pub returns-then-tenant-len : goal.returns-then-tenant-len
returns-then-tenant-len c =
    let f : HeadPart → HeadPart = λ part. without part c.args.name.now.id in
    rw (← c.self.view_is) (heads-put c.self.inside.settings c.self.inside.accounts c.self.inside.parts.items c.args.name.now.tenant c.from-tenant.result c.index_mut.result.now c.remove.new.self f true (search rules) (search rules) c.index_mut.ensures.value c.remove.ensures)

pub invariant_of-self : goal.invariant_of-self
invariant_of-self c =
    let f : HeadPart → HeadPart = λ part. without part c.args.name.now.id in
    record {
      room = room-put c.self.inside.settings.numbers.uploads c.self.inside.parts.items c.from-tenant.result c.index_mut.result.now c.remove.new.self f true (search rules) c.index_mut.ensures.value c.remove.ensures c.self.invariant.room;
      bound = bounded-removed c.self.inside.first_end c.self.inside.parts.items c.from-tenant.result c.args.name.now.id c.index_mut.result.now c.remove.new.self (search rules) c.index_mut.ensures.value c.remove.ensures c.self.invariant.bound;
    }
