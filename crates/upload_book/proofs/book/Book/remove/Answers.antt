use Rattle.std.proofs.Common.{◌≡◌, ◌<◌, ◌≤◌, ℕ, length, ap, sym, subst, ◌∙◌, arith}
use Rattle.upload_book.specs.Book.{StoredBook, plain_of}
use Rattle.upload_book.specs.contracts.book.Book.{the_view}
use Rattle.upload_book.specs.Expiries.{ends_of}
use Rattle.upload_book.specs.BlockStore.{upload_at}
use Rattle.upload_book.specs.inside.Places.{IsPlaceOf}
use Rattle.upload_book.proofs.Steps.BookSteps.{IsBook-removes, Removes, expiries-room_is, placed-removes, placed-renewed, plain-removes, removes-freed, removes-within}
use Rattle.upload_book.proofs.Expiries.ExpirySteps.{AreExpiries-renewed, renewed-few, renewed-known}
use Rattle.upload_book.proofs.book.Book.remove.Goals as goal

-- the upload stands at the place, whose tenant has a stored part
pub record Stands (b : StoredBook) (tenant id place : ℕ) : Type 0 where
  pub within : tenant < length b.store.stored_tenants
  pub placed : IsPlaceOf b.store tenant id place

-- in the book that was read it stands there too
stands : (b w : StoredBook) (tenant id place : ℕ) → b ≡ w → tenant < length w.store.stored_tenants → IsPlaceOf w.store tenant id place → Stands b tenant id place
stands b w tenant id place is within placed = subst (λ (b : StoredBook). Stands b tenant id place) (sym is) (record { within = within; placed = placed })

pub set_end-requires-clause-known : goal.set_end-requires-clause-known
set_end-requires-clause-known c =
    let b = the_view c.self.inside in
    let name = c.args.name in
    let is = stands b c.args.self.now name.tenant name.id c.args.place c.self.view_is c.requires.tenant c.requires.placed in
    let end : c.expires-end.result ≡ (upload_at b.store name.tenant c.args.place).expires = c.expires-end.ensures ∙ ap (λ t. (upload_at b.store t c.args.place).expires) c.from-tenant.ensures in
    rw end (renewed-known (placed-renewed b name.tenant name.id c.args.place c.self.invariant is.within is.placed))

pub set_end-requires-clause-room : goal.set_end-requires-clause-room
set_end-requires-clause-room c =
    let b = the_view c.self.inside in
    let name = c.args.name in
    let is = stands b c.args.self.now name.tenant name.id c.args.place c.self.view_is c.requires.tenant c.requires.placed in
    subst (λ n. length b.expiries.list ≤ n) (expiries-room_is b c.self.invariant)
    (renewed-few (placed-renewed b name.tenant name.id c.args.place c.self.invariant is.within is.placed))

pub overflow_add-self : goal.overflow_add-self
overflow_add-self c =
    let b = the_view c.self.inside in
    let name = c.args.name in
    let is = stands b c.args.self.now name.tenant name.id c.args.place c.self.view_is c.requires.tenant c.requires.placed in
    let ends = placed-removes b name.tenant name.id c.args.place c.self.invariant is.within is.placed c.remove-blocks.new.self c.remove-blocks.result
    (rw c.from-tenant.ensures at c.remove-blocks.ensures.plain) (rw c.from-tenant.ensures at c.remove-blocks.ensures.charge) c.remove-blocks.ensures.sizes c.remove-blocks.ensures.room_stays in
    omega (arith, removes-within b c.remove-blocks.new.self name.tenant name.id c.remove-blocks.result ends)

removes : (c : goal.After-self-1) → Removes (the_view c.self.inside) c.remove-blocks.new.self c.args.name.tenant c.args.name.id c.remove-blocks.result
removes c =
    let b = the_view c.self.inside in
    let name = c.args.name in
    let is = stands b c.args.self.now name.tenant name.id c.args.place c.self.view_is c.requires.tenant c.requires.placed in
    placed-removes b name.tenant name.id c.args.place c.self.invariant is.within is.placed c.remove-blocks.new.self c.remove-blocks.result
    (rw c.from-tenant.ensures at c.remove-blocks.ensures.plain) (rw c.from-tenant.ensures at c.remove-blocks.ensures.charge) c.remove-blocks.ensures.sizes c.remove-blocks.ensures.room_stays

pub invariant_of-self : goal.invariant_of-self
invariant_of-self c =
    let b = the_view c.self.inside in
    let name = c.args.name in
    let is = stands b c.args.self.now name.tenant name.id c.args.place c.self.view_is c.requires.tenant c.requires.placed in
    let renewed = placed-renewed b name.tenant name.id c.args.place c.self.invariant is.within is.placed in
    let end : c.expires-end.result ≡ (upload_at b.store name.tenant c.args.place).expires = c.expires-end.ensures ∙ ap (λ t. (upload_at b.store t c.args.place).expires) c.from-tenant.ensures in
    IsBook-removes b c.remove-blocks.new.self name.tenant name.id c.remove-blocks.result c.set_end.new.self (removes c)
    (record {
      expiries = AreExpiries-renewed renewed c.set_end.new.self.list (c.set_end.ensures.ends (ends_of (plain_of b)) c.self.invariant.expiries (renewed.was ∙ sym end));
      room = c.set_end.ensures.room_stays;
    })

pub returns-clause-freed : goal.returns-clause-freed
returns-clause-freed c =
    rw (← c.self.view_is) (sym (removes-freed (the_view c.self.inside) c.remove-blocks.new.self c.args.name.tenant c.args.name.id c.remove-blocks.result (removes c)))

pub returns-clause-after : goal.returns-clause-after
returns-clause-after c =
    rw (← c.self.view_is) (plain-removes (the_view c.self.inside) c.remove-blocks.new.self c.args.name.tenant c.args.name.id c.remove-blocks.result (removes c))
