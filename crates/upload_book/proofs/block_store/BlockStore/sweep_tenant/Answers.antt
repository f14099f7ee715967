use Rattle.std.proofs.Common.{ℕ, ◌-◌, ap, refl, ◌∙◌, arith}
use Rattle.std.specs.Prelude.{set}
use Rattle.std.specs.List.{flat_map}
use Rattle.block_pool.specs.Blocks.{free_in}
use Rattle.upload_book.specs.BlockStore.{plain_in}
use Rattle.upload_book.specs.declared.stored_tenant.StoredTenant.{StoredTenant as KeptTenant}
use Rattle.upload_book.specs.inside.Kept.{stored_tenant_of, store_of}
use Rattle.upload_book.specs.Stored.{StoredTenant}
use Rattle.upload_book.proofs.Store.Pieces.{kept_pieces}
use Rattle.upload_book.proofs.Store.StoreGone.{GivesUp, IsGivenUp, IsKept-given, given-within, plain-given}
use Rattle.upload_book.proofs.Store.StoreLemmas.{IsPart, IsPart-read, room-part}
use Rattle.upload_book.proofs.Store.StoreSwept.{GivesUp-swept, IsGivenUp-swept, IsHeld-part, boxes-fit, count-swept, plain-swept}
use Rattle.upload_book.proofs.Store.SweptLemmas.{swept_stored_tenant}
use Rattle.upload_book.proofs.block_store.BlockStore.sweep_tenant.Goals as goal

pub sweep-ended-requires-clause-held : goal.sweep-ended-requires-clause-held
sweep-ended-requires-clause-held c =
    IsHeld-part c.self.inside c.args.tenant c.index_mut-stored_tenant.result.now c.self.invariant
    (IsPart-read c.self.inside c.args.self.now c.args.tenant c.index_mut-stored_tenant.result.now c.self.view_is c.requires c.index_mut-stored_tenant.ensures.value)

pub sweep-ended-requires-clause-room : goal.sweep-ended-requires-clause-room
sweep-ended-requires-clause-room c =
    boxes-fit c.self.inside c.args.tenant c.index_mut-stored_tenant.result.now c.self.invariant
    (IsPart-read c.self.inside c.args.self.now c.args.tenant c.index_mut-stored_tenant.result.now c.self.view_is c.requires c.index_mut-stored_tenant.ensures.value)

pub overflow_sub-stored_tenant : goal.overflow_sub-stored_tenant
overflow_sub-stored_tenant c =
    let v = c.self.inside in
    let old = c.index_mut-stored_tenant.result.now in
    let q = c.sweep-ended.new.pool in
    let part = IsPart-read v c.args.self.now c.args.tenant old c.self.view_is c.requires c.index_mut-stored_tenant.ensures.value in
    let gives = GivesUp-swept v c.args.tenant c.args.now old c.sweep-ended.new.self q c.self.invariant part c.sweep-ended.ensures.ends in
    omega (
      arith,
      given-within v c.args.tenant old (swept_stored_tenant c.args.now (stored_tenant_of old)) (flat_map kept_pieces c.sweep-ended.ensures.ends.ended) (free_in q - free_in v.pool) q c.self.invariant gives,
      c.from.ensures,
      c.free.ensures,
      c.free-before.ensures,
      c.sweep-ended.ensures.charge,
    )

-- the part without the uploads that have expired
after : goal.After-self-1 → KeptTenant
after c = record (c.sweep-ended.new.self) { charge = c.sweep-ended.new.self.charge - c.from.result }

part : (c : goal.After-self-1) → IsPart c.self.inside c.args.tenant c.index_mut-stored_tenant.result.now
part c = IsPart-read c.self.inside c.args.self.now c.args.tenant c.index_mut-stored_tenant.result.now c.self.view_is c.requires c.index_mut-stored_tenant.ensures.value

left : goal.After-self-1 → StoredTenant
left c = swept_stored_tenant c.args.now (stored_tenant_of c.index_mut-stored_tenant.result.now)

freed : goal.After-self-1 → ℕ
freed c = free_in c.sweep-ended.new.pool - free_in c.self.inside.pool

-- their blocks are given back
gave : (c : goal.After-self-1) → GivesUp c.self.inside c.args.tenant c.index_mut-stored_tenant.result.now (left c) (flat_map kept_pieces c.sweep-ended.ensures.ends.ended) (freed c) c.sweep-ended.new.pool
unfolding left freed
gave c = GivesUp-swept c.self.inside c.args.tenant c.args.now c.index_mut-stored_tenant.result.now c.sweep-ended.new.self c.sweep-ended.new.pool c.self.invariant (part c) c.sweep-ended.ensures.ends

-- the part lost them
given : (c : goal.After-self-1) → IsGivenUp c.self.inside c.index_mut-stored_tenant.result.now (after c) (left c) (freed c)
unfolding after left freed
given c =
    let room = c.sweep-ended.ensures.room_stays c.self.inside.room (room-part c.self.inside c.args.tenant c.index_mut-stored_tenant.result.now c.self.invariant (part c)) in
    IsGivenUp-swept c.self.inside c.args.tenant c.args.now c.index_mut-stored_tenant.result.now c.sweep-ended.new.self c.sweep-ended.new.pool c.self.invariant (part c) c.sweep-ended.ensures.ends (after c)
    c.sweep-ended.ensures.quota c.sweep-ended.ensures.next refl (omega (arith, c.sweep-ended.ensures.charge, c.from.ensures, c.free.ensures, c.free-before.ensures))
    (record { uploads = room.uploads; boxed = room.boxed; spare = room.spare; boxes = room.boxes })

pub invariant_of-self : goal.invariant_of-self
unfolding after
invariant_of-self c =
    IsKept-given c.self.inside c.args.tenant c.index_mut-stored_tenant.result.now (left c) (flat_map kept_pieces c.sweep-ended.ensures.ends.ended) (freed c) c.sweep-ended.new.pool c.self.invariant (gave c) (after c) (given c)

pub returns-clause-plain : goal.returns-clause-plain
unfolding after left
returns-clause-plain c =
    let is = plain-given c.self.inside c.args.tenant c.index_mut-stored_tenant.result.now (left c) (flat_map kept_pieces c.sweep-ended.ensures.ends.ended) (freed c) c.sweep-ended.new.pool c.self.invariant (gave c) (after c) (given c) in
    let swept = plain-swept c.self.inside c.args.tenant c.args.now c.index_mut-stored_tenant.result.now c.sweep-ended.new.self c.sweep-ended.new.pool c.self.invariant (part c) c.sweep-ended.ensures.ends in
    rw (← c.self.view_is) (is ∙ ap (set (plain_in (store_of c.self.inside)) c.args.tenant) swept)

pub returns-clause-ended : goal.returns-clause-ended
returns-clause-ended c =
    let old = c.index_mut-stored_tenant.result.now in
    let part = IsPart-read c.self.inside c.args.self.now c.args.tenant old c.self.view_is c.requires c.index_mut-stored_tenant.ensures.value in
    rw (← c.self.view_is) (count-swept c.self.inside c.args.tenant c.args.now old c.sweep-ended.result c.sweep-ended.new.self.uploads.items c.self.invariant part c.sweep-ended.ensures.ends.left c.sweep-ended.ensures.ended)
