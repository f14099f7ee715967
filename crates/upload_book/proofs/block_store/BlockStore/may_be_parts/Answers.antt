use Rattle.std.proofs.Common.{sym, ap, ◌∙◌}
use Rattle.std.specs.List.{list_all}
use Rattle.upload_book.specs.snapshot.Restore.{may_be_part}
use Rattle.upload_book.specs.snapshot.Restored.{RestoredSegment}
use Rattle.upload_book.specs.Stored.{StoredTenant, part_of}
use Rattle.upload_book.proofs.Store.StoreLemmas.{IsPart-read, order-part, reads-part, stored_tenant_at-part}
use Rattle.upload_book.proofs.block_store.BlockStore.may_be_parts.Goals as goal

pub may_be_parts-requires : goal.may_be_parts-requires
may_be_parts-requires c =
    (order-part c.self.inside c.args.tenant c.index.result.now c.self.invariant (IsPart-read c.self.inside c.args.self.now c.args.tenant c.index.result.now c.self.view_is c.requires c.index.ensures)).ids

pub returns : goal.returns
returns c =
    let v = c.self.inside in
    let old = c.index.result.now in
    let part = IsPart-read v c.args.self.now c.args.tenant old c.self.view_is c.requires c.index.ensures in
    rw (← c.self.view_is)
    (c.may_be_parts.ensures v.pool (reads-part v c.args.tenant old c.self.invariant part)
    ∙ ap (λ (s : StoredTenant). list_all (λ (x : RestoredSegment). may_be_part (part_of v.pool s) x.origin) c.args.segments.now) (sym (stored_tenant_at-part v c.args.tenant old part)))
