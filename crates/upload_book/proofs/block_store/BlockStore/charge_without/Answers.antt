use Rattle.std.proofs.Common.{◌<◌, ap, length, sym, subst, ◌∙◌}
use Rattle.std.specs.List.{remove}
use Rattle.upload_book.specs.inside.ChargeAfter.{cost_of, IsPaid}
use Rattle.upload_book.specs.BlockStore.{BlockStore, stored_tenant_at}
use Rattle.upload_book.specs.Stored.{StoredTenant}
use Rattle.upload_book.proofs.Charge.StoreChargeAfter.{AreCounted-part, IsPaid-part, charge-without}
use Rattle.upload_book.proofs.Store.StoreLemmas.{IsPart-read, stored_tenant_at-part}
use Rattle.upload_book.proofs.block_store.BlockStore.charge_without.Goals as goal

pub charge_without-requires-clause-place : goal.charge_without-requires-clause-place
charge_without-requires-clause-place c =
    let part = IsPart-read c.self.inside c.args.self.now c.args.tenant c.index.result.now c.self.view_is c.requires.tenant c.index.ensures in
    subst (λ (s : StoredTenant). c.args.place < length s.uploads) (ap (λ (s : BlockStore). stored_tenant_at s c.args.tenant) (sym c.self.view_is) ∙ stored_tenant_at-part c.self.inside c.args.tenant c.index.result.now part) c.requires.place

pub charge_without-requires-clause-size : goal.charge_without-requires-clause-size
charge_without-requires-clause-size c = rw (c.from-size.ensures, c.block_size.ensures.value) c.self.invariant.size

pub charge_without-requires-clause-paid : goal.charge_without-requires-clause-paid
charge_without-requires-clause-paid c =
    let part = IsPart-read c.self.inside c.args.self.now c.args.tenant c.index.result.now c.self.view_is c.requires.tenant c.index.ensures in
    subst (λ size. IsPaid size c.index.result.now) (sym (c.from-size.ensures ∙ c.block_size.ensures.value)) (IsPaid-part c.self.inside c.args.tenant c.index.result.now c.self.invariant part)

pub charge_without-requires-clause-counted : goal.charge_without-requires-clause-counted
charge_without-requires-clause-counted c =
    AreCounted-part c.self.inside c.args.tenant c.index.result.now c.self.invariant (IsPart-read c.self.inside c.args.self.now c.args.tenant c.index.result.now c.self.view_is c.requires.tenant c.index.ensures)

pub returns : goal.returns
returns c =
    let part = IsPart-read c.self.inside c.args.self.now c.args.tenant c.index.result.now c.self.view_is c.requires.tenant c.index.ensures in
    rw (← c.self.view_is)
    (c.charge_without.ensures ∙ ap (λ size. cost_of size c.index.result.now.next (remove c.index.result.now.uploads.items c.args.place)) (c.from-size.ensures ∙ c.block_size.ensures.value)
    ∙ charge-without c.self.inside c.args.tenant c.args.place c.index.result.now c.self.invariant part)
