use Rattle.std.proofs.Common.{Some, ap, sym, subst, ◌∙◌}
use Rattle.upload_book.specs.inside.ChargeAfter.{cost_of, left, IsPaid}
use Rattle.upload_book.proofs.Charge.StoreChargeAfter.{AreCounted-part, IsPaid-part, charge-swept}
use Rattle.upload_book.proofs.Store.StoreLemmas.{IsPart-read}
use Rattle.upload_book.proofs.block_store.BlockStore.charge_swept.Goals as goal

pub charge_swept-requires-clause-size : goal.charge_swept-requires-clause-size
charge_swept-requires-clause-size c = rw (c.from-size.ensures, c.block_size.ensures.value) c.self.invariant.size

pub charge_swept-requires-clause-paid : goal.charge_swept-requires-clause-paid
charge_swept-requires-clause-paid c =
    let part = IsPart-read c.self.inside c.args.self.now c.args.tenant c.index.result.now c.self.view_is (rw c.tenants.ensures at c.if-tenant-tenants.true) c.index.ensures in
    subst (λ size. IsPaid size c.index.result.now) (sym (c.from-size.ensures ∙ c.block_size.ensures.value)) (IsPaid-part c.self.inside c.args.tenant c.index.result.now c.self.invariant part)

pub charge_swept-requires-clause-counted : goal.charge_swept-requires-clause-counted
charge_swept-requires-clause-counted c =
    AreCounted-part c.self.inside c.args.tenant c.index.result.now c.self.invariant
    (IsPart-read c.self.inside c.args.self.now c.args.tenant c.index.result.now c.self.view_is (rw c.tenants.ensures at c.if-tenant-tenants.true) c.index.ensures)

pub returns-then-tenant-tenants : goal.returns-then-tenant-tenants
returns-then-tenant-tenants c =
    let part = IsPart-read c.self.inside c.args.self.now c.args.tenant c.index.result.now c.self.view_is (rw c.tenants.ensures at c.if-tenant-tenants.true) c.index.ensures in
    rw (← c.self.view_is)
    (c.charge_swept.ensures ∙ ap (λ size. cost_of size c.index.result.now.next (left (Some c.args.now) c.index.result.now.uploads.items)) (c.from-size.ensures ∙ c.block_size.ensures.value)
    ∙ charge-swept c.self.inside c.args.tenant c.args.now c.index.result.now c.self.invariant part)
