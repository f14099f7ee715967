use Rattle.std.proofs.Common.{ap, sym, subst, ◌∙◌, arith}
use Rattle.upload_book.specs.Book.{StoredBook}
use Rattle.upload_book.specs.Charge.{charge_with}
use Rattle.upload_book.specs.contracts.book.Book.{the_view}
use Rattle.upload_book.specs.Ready.{IsReadyForEnd}
use Rattle.upload_book.specs.BlockStore.{part_at}
use Rattle.upload_book.specs.inside.Places.{without_upload}
use Rattle.upload_book.proofs.Steps.BookSteps.{stored_tenants-settings}
use Rattle.upload_book.proofs.Heads.LineSteps.{Tells, end-accounts, end-charged}
use Rattle.upload_book.proofs.book.Book.accounts_after_end.Goals as goal

pub charge_without-charge-requires-clause-tenant : goal.charge_without-charge-requires-clause-tenant
charge_without-charge-requires-clause-tenant c =
    rw c.from.ensures (subst (λ (b : StoredBook). IsReadyForEnd b c.args.ready.now) (sym c.self.view_is) c.requires).there

pub charge_without-charge-requires-clause-place : goal.charge_without-charge-requires-clause-place
charge_without-charge-requires-clause-place c =
    rw c.from.ensures (subst (λ (b : StoredBook). IsReadyForEnd b c.args.ready.now) (sym c.self.view_is) c.requires).seen.there

pub accounts_where-requires-clause-tenant_there : goal.accounts_where-requires-clause-tenant_there
accounts_where-requires-clause-tenant_there c =
    let b = the_view c.self.inside in
    let ready = subst (λ (b : StoredBook). IsReadyForEnd b c.args.ready.now) (sym c.self.view_is) c.requires in
    rw (← c.self.view_is) (omega (arith, ready.there, stored_tenants-settings b c.self.invariant))

pub accounts_where-requires-clause-within : goal.accounts_where-requires-clause-within
accounts_where-requires-clause-within c =
    let b = the_view c.self.inside in
    let ready = subst (λ (b : StoredBook). IsReadyForEnd b c.args.ready.now) (sym c.self.view_is) c.requires in
    let charge = c.charge_without-charge.ensures ∙ ap (λ t. charge_with b.store.pool.block_size (without_upload (part_at b.store t) c.args.ready.now.place)) c.from.ensures in
    rw (← c.self.view_is) (end-charged b c.args.ready.now c.self.invariant ready c.charge_without-charge.result charge)

pub returns : goal.returns
returns c =
    let b = the_view c.self.inside in
    let ready = subst (λ (b : StoredBook). IsReadyForEnd b c.args.ready.now) (sym c.self.view_is) c.requires in
    let charge = c.charge_without-charge.ensures ∙ ap (λ t. charge_with b.store.pool.block_size (without_upload (part_at b.store t) c.args.ready.now.place)) c.from.ensures in
    let tells = subst (λ (b : StoredBook). Tells b c.args.ready.now.name.tenant c.charge_without-charge.result c.accounts_where.result) (sym c.self.view_is) c.accounts_where.ensures in
    rw (← c.self.view_is) (end-accounts b c.args.ready.now c.self.invariant ready c.charge_without-charge.result c.accounts_where.result charge tells)
