use Rattle.std.proofs.Common.{rules}
use Rattle.upload_book.specs.Heads.{HeadPart, with_row}
use Rattle.head_board.proofs.BoundLemmas.{bounded-created, bounded-put, bounded-read}
use Rattle.head_board.proofs.TableLemmas.{heads-put, room-put}
use Rattle.head_board.proofs.head_table.HeadTable.create.Goals as goal

pub returns-clause-after : goal.returns-clause-after
returns-clause-after c =
    let f : HeadPart → HeadPart = λ part. with_row part part.next c.args.row.now in
    rw (← c.self.view_is) (heads-put c.self.inside.settings c.self.inside.accounts c.self.inside.parts.items c.args.tenant c.from-tenant.result c.index_mut.result.now c.create.new.self f c.create.result (search rules) (search rules) c.index_mut.ensures.value c.create.ensures.after)

pub invariant_of-self : goal.invariant_of-self
invariant_of-self c =
    let f : HeadPart → HeadPart = λ part. with_row part part.next c.args.row.now in
    record {
      room = room-put c.self.inside.settings.numbers.uploads c.self.inside.parts.items c.from-tenant.result c.index_mut.result.now c.create.new.self f c.create.result
          (search rules) c.index_mut.ensures.value c.create.ensures.after c.self.invariant.room;
      bound = rw (c.earlier-self-inside.ensures, c.growth.ensures) (bounded-put c.self.inside.first_end c.args.row.now.expires c.self.inside.parts.items c.from-tenant.result c.create.new.self
          (bounded-created c.self.inside.first_end c.index_mut.result.now c.create.new.self c.args.row.now c.create.result c.create.ensures.after (bounded-read c.self.inside.first_end c.self.inside.parts.items c.from-tenant.result c.index_mut.result.now (search rules) c.index_mut.ensures.value c.self.invariant.bound))
          c.self.invariant.bound);
    }
