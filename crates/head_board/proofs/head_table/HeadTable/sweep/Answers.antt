use Rattle.std.proofs.Common.{List, ap, sym}
use Rattle.upload_book.specs.Heads.{HeadPart, Heads}
use Rattle.head_board.specs.inside.Rows.{AreBounded, Rows}
use Rattle.head_board.proofs.BoundLemmas.{All-unmap, fresh-heads}
use Rattle.head_board.proofs.head_table.HeadTable.sweep.Goals as goal

pub invariant_of-self : goal.invariant_of-self
invariant_of-self c =
    let first = c.earliest_end-self-inside in
    record {
      room = c.self.invariant.room;
      bound = All-unmap (λ (part : HeadPart). AreBounded first.result part.uploads) (λ (r : Rows). r.part) c.self.inside.parts.items (rw (← c.self.view_is) at first.ensures);
    }

pub returns-else-may_expire : goal.returns-else-may_expire
returns-else-may_expire c =
    let h = c.args.self.now in
    ap (λ (tenants : List HeadPart). let after : Heads = record h { tenants = tenants } in after) (sym (fresh-heads c.args.now h.tenants (c.may_expire.ensures c.if-may_expire.false)))
