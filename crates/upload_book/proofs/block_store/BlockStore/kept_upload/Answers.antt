use Rattle.std.proofs.Common.{Some, sym, ap, ◌∙◌, arith}
use Rattle.upload_book.specs.inside.Kept.{stored_tenant_of}
use Rattle.upload_book.specs.Stored.{StoredTenant}
use Rattle.upload_book.proofs.Restoring.KeptUploads.{kept-past, kept-there, kept_from}
use Rattle.upload_book.proofs.Store.StoreLemmas.{IsPart-read, bodies-part, order-part, own-part, reads-part, stored_tenant_at-part}
use Rattle.upload_book.proofs.block_store.BlockStore.kept_upload.Goals as goal

pub new-requires : goal.new-requires
new-requires c =
    let v = c.self.inside in
    let old = c.index-stored_tenant.result.now in
    let part = IsPart-read v c.args.self.now c.args.tenant old c.self.view_is c.requires c.index-stored_tenant.ensures in
    record {
      there = omega (arith, c.if-place-len.true, c.len.ensures);
      order = order-part v c.args.tenant old c.self.invariant part;
      own = own-part v c.args.tenant old c.self.invariant part;
      bodies = bodies-part v c.args.tenant old c.self.invariant part;
      reads = reads-part v c.args.tenant old c.self.invariant part;
    }

pub returns-then-place-len : goal.returns-then-place-len
returns-then-place-len c =
    let v = c.self.inside in
    let old = c.index-stored_tenant.result.now in
    let part = IsPart-read v c.args.self.now c.args.tenant old c.self.view_is c.requires c.index-stored_tenant.ensures in
    rw (← c.self.view_is) (ap Some c.new.ensures ∙ kept-there v.pool (stored_tenant_of old) c.args.place (omega (arith, c.if-place-len.true, c.len.ensures)) ∙ ap (λ (t : StoredTenant). kept_from v.pool t c.args.place) (sym (stored_tenant_at-part v c.args.tenant old part)))

pub returns-else-place-len : goal.returns-else-place-len
returns-else-place-len c =
    let v = c.self.inside in
    let old = c.index-stored_tenant.result.now in
    let part = IsPart-read v c.args.self.now c.args.tenant old c.self.view_is c.requires c.index-stored_tenant.ensures in
    rw (← c.self.view_is) (kept-past v.pool (stored_tenant_of old) c.args.place (omega (arith, c.if-place-len.false, c.len.ensures)) ∙ ap (λ (t : StoredTenant). kept_from v.pool t c.args.place) (sym (stored_tenant_at-part v c.args.tenant old part)))
