use Rattle.std.proofs.Common.{ℕ, IfOk, sym, subst, ◌∙◌}
use Rattle.upload_book.specs.inside.FinalBack.{AreRoomsFor}
use Rattle.upload_book.specs.inside.Kept.{stored_tenant_of}
use Rattle.upload_book.specs.Stored.{StoredTenant, pieces_of}
use Rattle.upload_book.proofs.Store.StoreLemmas.{IsPart-read, order-part, stored_tenant_at-part}
use Rattle.upload_book.proofs.block_store.BlockStore.rooms_for.Goals as goal

pub rooms_for-requires-clause-order : goal.rooms_for-requires-clause-order
rooms_for-requires-clause-order c =
    let old = c.index.result.now in
    order-part c.self.inside c.args.tenant old c.self.invariant (IsPart-read c.self.inside c.args.self.now c.args.tenant old c.self.view_is c.requires c.index.ensures)

pub returns : goal.returns
returns c =
    let v = c.self.inside in
    let old = c.index.result.now in
    let part = IsPart-read v c.args.self.now c.args.tenant old c.self.view_is c.requires c.index.ensures in
    rw (← c.self.view_is)
    (subst (λ (s : StoredTenant). IfOk c.rooms_for.result (λ v'. AreRoomsFor v.pool.block_size (pieces_of s) c.args.segments.now v'.items)) (sym (stored_tenant_at-part v c.args.tenant old part))
    (subst (λ (size : ℕ). IfOk c.rooms_for.result (λ v'. AreRoomsFor size (pieces_of (stored_tenant_of old)) c.args.segments.now v'.items)) (c.from-size.ensures ∙ c.block_size.ensures.value) c.rooms_for.ensures))
