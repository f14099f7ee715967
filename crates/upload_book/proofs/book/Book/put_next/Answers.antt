use Rattle.std.proofs.Common.{◌≡◌, ℕ, ◌<◌, ◌≤◌, length, set, sym, ap, subst, ◌∙◌, arith}
use Rattle.upload_book.specs.BlockStore.{BlockStore, part_at, plain_in, stored_tenant_at}
use Rattle.upload_book.specs.Book.{StoredBook, IsBook, plain_of}
use Rattle.upload_book.specs.contracts.book.Book.{the_view}
use Rattle.upload_book.specs.declared.ready.ReadyNext.{ReadyNext}
use Rattle.upload_book.specs.PlainBook.{tenant_book}
use Rattle.upload_book.specs.Ready.{IsReadyForNext}
use Rattle.upload_book.specs.TenantBook.{TenantBook, with_next}
use Rattle.upload_book.proofs.Restoring.NextSteps.{IsBook-next, IsNumbered, next-more, plain-numbered}
use Rattle.upload_book.proofs.Steps.BookSteps.{part-plain, stored_tenants-settings}
use Rattle.upload_book.proofs.book.Book.put_next.Goals as goal

-- the book was ready
module _ (b w : StoredBook) (r : ReadyNext) (kept : IsBook b) (is : b ≡ w) (asked : IsReadyForNext w r) where
  ready : IsReadyForNext b r
  ready = subst (λ (b : StoredBook). IsReadyForNext b r) (sym is) asked

  within : r.tenant < length b.store.stored_tenants
  within = let there = ready.there in omega (arith, stored_tenants-settings b kept)

  more : (place : ℕ) → place ≡ r.tenant → (stored_tenant_at b.store place).next ≤ r.next
  more place at =
      let same : (stored_tenant_at b.store place).next ≡ (tenant_book (plain_of b) r.tenant).next = ap (λ t. (part_at b.store t).next) at ∙ ap (λ (part : TenantBook). part.next) (sym (part-plain b r.tenant)) in
      omega (arith, same, next-more b r.tenant r.next kept within ready.accepted)

  numbered : (place : ℕ) (s : BlockStore) → place ≡ r.tenant → plain_in s ≡ set (plain_in b.store) place (with_next (part_at b.store place) r.next) → s.pool ≡ b.store.pool → s.room ≡ b.store.room
      → IsNumbered b r.tenant r.next kept within ready.accepted s
  numbered place s at plain pool room = (plain ∙ ap (λ t. set (plain_in b.store) t (with_next (part_at b.store t) r.next)) at, pool, room)

pub set_next-requires-clause-tenant : goal.set_next-requires-clause-tenant
set_next-requires-clause-tenant c = rw c.from.ensures (within (the_view c.self.inside) c.args.self.now c.args.ready c.self.invariant c.self.view_is c.requires)

pub set_next-requires-clause-more : goal.set_next-requires-clause-more
set_next-requires-clause-more c = more (the_view c.self.inside) c.args.self.now c.args.ready c.self.invariant c.self.view_is c.requires c.from.result c.from.ensures

pub invariant_of-self : goal.invariant_of-self
invariant_of-self c =
    let b = the_view c.self.inside in
    let r = c.args.ready in
    IsBook-next b r.tenant r.next c.self.invariant (within b c.args.self.now r c.self.invariant c.self.view_is c.requires) (ready b c.args.self.now r c.self.invariant c.self.view_is c.requires).accepted c.set_next.new.self
    (numbered b c.args.self.now r c.self.invariant c.self.view_is c.requires c.from.result c.set_next.new.self c.from.ensures c.set_next.ensures.plain c.set_next.ensures.pool c.set_next.ensures.room_stays)

pub returns : goal.returns
returns c =
    let b = the_view c.self.inside in
    let r = c.args.ready in
    rw (← c.self.view_is) (plain-numbered b r.tenant r.next c.self.invariant (within b c.args.self.now r c.self.invariant c.self.view_is c.requires) (ready b c.args.self.now r c.self.invariant c.self.view_is c.requires).accepted c.set_next.new.self
    (numbered b c.args.self.now r c.self.invariant c.self.view_is c.requires c.from.result c.set_next.new.self c.from.ensures c.set_next.ensures.plain c.set_next.ensures.pool c.set_next.ensures.room_stays))
