use Rattle.std.proofs.Common.{◌≡◌, ℕ, ◌≤◌, sym, ap, ◌∙◌, arith}
use Rattle.upload_book.specs.BlockStore.{BlockStore, stored_tenant_at}
use Rattle.upload_book.specs.declared.block_store.BlockStore.TheInside.{Inside}
use Rattle.upload_book.specs.declared.stored_tenant.StoredTenant.{StoredTenant as KeptTenant}
use Rattle.upload_book.specs.inside.Kept.{store_of}
use Rattle.upload_book.specs.Stored.{StoredTenant}
use Rattle.upload_book.proofs.Store.StoreLemmas.{IsPart, IsPart-read, stored_tenant_at-part}
use Rattle.upload_book.proofs.Store.StoreNext.{IsKept-next, plain-next}
use Rattle.upload_book.proofs.block_store.BlockStore.set_next.Goals as goal

-- the next id does not fall
not_less : (v : Inside) (s : BlockStore) (t next : ℕ) (old : KeptTenant) → store_of v ≡ s → IsPart v t old → (stored_tenant_at s t).next ≤ next → old.next ≤ next
not_less v s t next old is part more =
    let same : (stored_tenant_at s t).next ≡ old.next = ap (λ (s : BlockStore). (stored_tenant_at s t).next) (sym is) ∙ ap (λ (s : StoredTenant). s.next) (stored_tenant_at-part v t old part) in
    omega arith

pub invariant_of-self : goal.invariant_of-self
invariant_of-self c =
    let v = c.self.inside in
    let old = c.index_mut.result.now in
    let part = IsPart-read v c.args.self.now c.args.tenant old c.self.view_is c.requires.tenant c.index_mut.ensures.value in
    IsKept-next v c.args.tenant c.args.next old c.self.invariant part (not_less v c.args.self.now c.args.tenant c.args.next old c.self.view_is part c.requires.more)

pub returns-clause-plain : goal.returns-clause-plain
returns-clause-plain c =
    let v = c.self.inside in
    let old = c.index_mut.result.now in
    let part = IsPart-read v c.args.self.now c.args.tenant old c.self.view_is c.requires.tenant c.index_mut.ensures.value in
    rw (← c.self.view_is) (plain-next v c.args.tenant c.args.next old c.self.invariant part (not_less v c.args.self.now c.args.tenant c.args.next old c.self.view_is part c.requires.more))
