use Rattle.std.proofs.Common.{sym, ◌∙◌}
use Rattle.upload_book.proofs.Store.StoreLemmas.{IsPart-read, charge-part, charge_with-part}
use Rattle.upload_book.proofs.block_store.BlockStore.charge.Goals as goal

pub returns-then-tenant-tenants : goal.returns-then-tenant-tenants
returns-then-tenant-tenants c =
    let part = IsPart-read c.self.inside c.args.self.now c.args.tenant c.index.result.now c.self.view_is (rw c.tenants.ensures at c.if-tenant-tenants.true) c.index.ensures in
    rw (← c.self.view_is) (charge-part c.self.inside c.args.tenant c.index.result.now c.self.invariant part ∙ sym (charge_with-part c.self.inside c.args.tenant c.index.result.now c.self.invariant part))
