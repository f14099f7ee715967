use Rattle.upload_book.specs.Stored.{StoredUpload}
use Rattle.upload_book.specs.TenantBook.{Entry}
use Rattle.std.proofs.Common.{subst, sym, ◌≡◌, set, refl, ap, ◌∙◌, arith}
use Rattle.std.proofs.lemmas.List.{set-get_or}
use Rattle.std.specs.Vec.{with_item}
use Rattle.block_bodies.specs.Bodies.{HasRoom, Chain}
use Rattle.upload_book.specs.Account.{blocks_between}
use Rattle.upload_book.specs.declared.stored_tenant.StoredTenant.{StoredTenant as KeptTenant}
use Rattle.upload_book.specs.inside.Kept.{store_of}
use Rattle.upload_book.specs.BlockStore.{upload_at}
use Rattle.upload_book.specs.inside.Pieces.{own_chain}
use Rattle.upload_book.specs.Upload.{offset_of}
use Rattle.upload_book.proofs.Store.StoreAppend.{alone-read, body-read, needs-read, free-read}
use Rattle.upload_book.proofs.Store.StoreLemmas.{OnErr-of, IsPart-read, IsEntry-read, own-kind, at-place, room-kept, store_of-same}
use Rattle.upload_book.proofs.Store.StoreReserve.{IsReserved, IsKept-reserved, chain-reserved, plain-reserved}
use Rattle.upload_book.proofs.Store.StoreRenew.{IsRenewed, IsKept-renewed}
use Rattle.upload_book.proofs.block_store.BlockStore.reserve.Goals.{In_ok-reserve}
use Rattle.upload_book.proofs.block_store.BlockStore.reserve.Goals as goal

pub reserve-requires-clause-body : goal.reserve-requires-clause-body
reserve-requires-clause-body c =
    let part = IsPart-read c.self.inside c.args.self.now c.args.tenant c.index_mut-stored_tenant.result.now c.self.view_is c.requires.tenant c.index_mut-stored_tenant.ensures.value in
    let entry = IsEntry-read c.self.inside c.args.self.now c.args.tenant c.args.place c.index_mut-stored_tenant.result.now c.index_mut-upload.result.now c.self.view_is part c.requires.place c.index_mut-upload.ensures.value in
    let own = own-kind c.self.inside c.args.self.now c.args.tenant c.args.place c.index_mut-stored_tenant.result.now c.index_mut-upload.result.now c.self.view_is part entry c.requires.alone.own in
    body-read c.self.inside c.args.tenant c.args.place c.index_mut-stored_tenant.result.now c.index_mut-upload.result.now c.self.invariant part entry own

pub reserve-requires-clause-free : goal.reserve-requires-clause-free
reserve-requires-clause-free c =
    let part = IsPart-read c.self.inside c.args.self.now c.args.tenant c.index_mut-stored_tenant.result.now c.self.view_is c.requires.tenant c.index_mut-stored_tenant.ensures.value in
    let entry = IsEntry-read c.self.inside c.args.self.now c.args.tenant c.args.place c.index_mut-stored_tenant.result.now c.index_mut-upload.result.now c.self.view_is part c.requires.place c.index_mut-upload.ensures.value in
    let own = own-kind c.self.inside c.args.self.now c.args.tenant c.args.place c.index_mut-stored_tenant.result.now c.index_mut-upload.result.now c.self.view_is part entry c.requires.alone.own in
    let v = c.self.inside in
    let room = rw (← c.self.view_is) at c.requires.room in
    let free = free-read v (blocks_between v.pool.block_size (offset_of (upload_at (store_of v) c.args.tenant c.args.place)) c.args.more) c.self.invariant room in
    let same = at-place v c.args.tenant c.args.place c.index_mut-stored_tenant.result.now c.index_mut-upload.result.now part entry (λ e u. blocks_between v.pool.block_size (offset_of u) c.args.more) in
    omega (arith, free, same, needs-read v c.args.tenant c.args.place c.index_mut-stored_tenant.result.now c.index_mut-upload.result.now c.args.more c.self.invariant part entry own)

-- the part where there was no memory
same_part : goal.After-from_residual → KeptTenant
same_part c = record (c.index_mut-stored_tenant.result.now) { uploads = with_item c.index_mut-stored_tenant.result.now.uploads c.args.place c.reserve.new.self }

stays : (c : goal.After-from_residual) → IsRenewed c.self.inside c.args.tenant c.args.place c.index_mut-stored_tenant.result.now (same_part c) c.index_mut-upload.result.now c.index_mut-upload.result.now.kept.declared c.index_mut-upload.result.now.kept.expires
unfolding same_part
stays c =
    let part = IsPart-read c.self.inside c.args.self.now c.args.tenant c.index_mut-stored_tenant.result.now c.self.view_is c.requires.tenant c.index_mut-stored_tenant.ensures.value in
    let entry = IsEntry-read c.self.inside c.args.self.now c.args.tenant c.args.place c.index_mut-stored_tenant.result.now c.index_mut-upload.result.now c.self.view_is part c.requires.place c.index_mut-upload.ensures.value in
    let own = own-kind c.self.inside c.args.self.now c.args.tenant c.args.place c.index_mut-stored_tenant.result.now c.index_mut-upload.result.now c.self.view_is part entry c.requires.alone.own in
    record {
      part = part;
      entry = entry;
      own = own;
      quota = refl;
      next = refl;
      charge = refl;
      uploads = ap (set c.index_mut-stored_tenant.result.now.uploads.items c.args.place) c.in_err-reserve.ensures.unchanged;
      room = room-kept c.self.inside c.args.tenant c.args.place _ c.index_mut-stored_tenant.result.now c.index_mut-upload.result.now c.reserve.new.self c.self.invariant part entry (ap (λ (e : Entry StoredUpload). e.kept.boxed) c.in_err-reserve.ensures.unchanged);
    }

pub invariant_of-self : goal.invariant_of-self
unfolding same_part
invariant_of-self c =
    (IsKept-renewed c.self.inside c.args.tenant c.args.place c.index_mut-stored_tenant.result.now (same_part c) c.index_mut-upload.result.now c.index_mut-upload.result.now.kept.declared c.index_mut-upload.result.now.kept.expires c.self.invariant (stays c))

pub returns-in_err-reserve-clause-memory : goal.returns-in_err-reserve-clause-memory
returns-in_err-reserve-clause-memory c =
    let part = IsPart-read c.self.inside c.args.self.now c.args.tenant c.index_mut-stored_tenant.result.now c.self.view_is c.requires.tenant c.index_mut-stored_tenant.ensures.value in
    let entry = IsEntry-read c.self.inside c.args.self.now c.args.tenant c.args.place c.index_mut-stored_tenant.result.now c.index_mut-upload.result.now c.self.view_is part c.requires.place c.index_mut-upload.ensures.value in
    let own = own-kind c.self.inside c.args.self.now c.args.tenant c.args.place c.index_mut-stored_tenant.result.now c.index_mut-upload.result.now c.self.view_is part entry c.requires.alone.own in
    let v = c.self.inside in
    let same = at-place v c.args.tenant c.args.place c.index_mut-stored_tenant.result.now c.index_mut-upload.result.now part entry (λ e u. blocks_between v.pool.block_size (offset_of u) c.args.more) in
    OnErr-of c.from_residual.result (rw (← c.self.view_is) (omega (arith, same, c.in_err-reserve.ensures.memory, needs-read v c.args.tenant c.args.place c.index_mut-stored_tenant.result.now c.index_mut-upload.result.now c.args.more c.self.invariant part entry own)))

pub returns-in_err-reserve-clause-unchanged : goal.returns-in_err-reserve-clause-unchanged
unfolding same_part
returns-in_err-reserve-clause-unchanged c =
    let part = IsPart-read c.self.inside c.args.self.now c.args.tenant c.index_mut-stored_tenant.result.now c.self.view_is c.requires.tenant c.index_mut-stored_tenant.ensures.value in
    let entry = IsEntry-read c.self.inside c.args.self.now c.args.tenant c.args.place c.index_mut-stored_tenant.result.now c.index_mut-upload.result.now c.self.view_is part c.requires.place c.index_mut-upload.ensures.value in
    let own = own-kind c.self.inside c.args.self.now c.args.tenant c.args.place c.index_mut-stored_tenant.result.now c.index_mut-upload.result.now c.self.view_is part entry c.requires.alone.own in
    let kept : set c.index_mut-stored_tenant.result.now.uploads.items c.args.place c.reserve.new.self ≡ c.index_mut-stored_tenant.result.now.uploads.items = ap (set c.index_mut-stored_tenant.result.now.uploads.items c.args.place) (c.in_err-reserve.ensures.unchanged ∙ c.index_mut-upload.ensures.value) ∙ set-get_or c.index_mut-stored_tenant.result.now.uploads.items c.args.place c.index_mut-upload.result.now in
    OnErr-of c.from_residual.result ((store_of-same c.self.inside c.args.tenant c.index_mut-stored_tenant.result.now (same_part c) part (rw kept refl) ∙ c.self.view_is))

-- the part in which there is room
after : In_ok-reserve → KeptTenant
after c = record (c.index_mut-stored_tenant.result.now) { uploads = with_item c.index_mut-stored_tenant.result.now.uploads c.args.place c.reserve.new.self }

reserved : (c : In_ok-reserve) → IsReserved c.self.inside c.args.tenant c.args.place c.index_mut-stored_tenant.result.now (after c) c.index_mut-upload.result.now (own_chain c.reserve.new.self.kept.pieces)
unfolding after
reserved c =
    let part = IsPart-read c.self.inside c.args.self.now c.args.tenant c.index_mut-stored_tenant.result.now c.self.view_is c.requires.tenant c.index_mut-stored_tenant.ensures.value in
    let entry = IsEntry-read c.self.inside c.args.self.now c.args.tenant c.args.place c.index_mut-stored_tenant.result.now c.index_mut-upload.result.now c.self.view_is part c.requires.place c.index_mut-upload.ensures.value in
    record {
      part = part;
      entry = entry;
      own = own-kind c.self.inside c.args.self.now c.args.tenant c.args.place c.index_mut-stored_tenant.result.now c.index_mut-upload.result.now c.self.view_is part entry c.requires.alone.own;
      alone = alone-read c.self.inside c.args.self.now c.args.tenant c.args.place c.index_mut-stored_tenant.result.now c.index_mut-upload.result.now c.self.invariant c.self.view_is part entry c.requires.alone;
      chain = c.reserve.ensures.body;
      once = c.reserve.ensures.once;
      quota = refl;
      next = refl;
      charge = refl;
      uploads = ap (set c.index_mut-stored_tenant.result.now.uploads.items c.args.place) c.in_ok-reserve.ensures.upload;
      room = room-kept c.self.inside c.args.tenant c.args.place _ c.index_mut-stored_tenant.result.now c.index_mut-upload.result.now c.reserve.new.self c.self.invariant part entry (ap (λ (e : Entry StoredUpload). e.kept.boxed) c.in_ok-reserve.ensures.upload);
    }

pub invariant_of-self-2 : goal.invariant_of-self-2
unfolding after
invariant_of-self-2 c =
    IsKept-reserved c.self.inside c.args.tenant c.args.place c.index_mut-stored_tenant.result.now (after c) c.index_mut-upload.result.now (own_chain c.reserve.new.self.kept.pieces) c.self.invariant (reserved c)

pub returns-clause-plain : goal.returns-clause-plain
unfolding after
returns-clause-plain c =
    rw (← c.self.view_is) (plain-reserved c.self.inside c.args.tenant c.args.place c.index_mut-stored_tenant.result.now (after c) c.index_mut-upload.result.now (own_chain c.reserve.new.self.kept.pieces) c.self.invariant (reserved c))

pub returns-clause-listed : goal.returns-clause-listed
unfolding after
returns-clause-listed c =
    subst (λ (x : Chain). HasRoom c.self.inside.pool x c.args.more)
    (sym (chain-reserved c.self.inside c.args.tenant c.args.place c.index_mut-stored_tenant.result.now (after c) c.index_mut-upload.result.now (own_chain c.reserve.new.self.kept.pieces) c.self.invariant (reserved c)))
    c.in_ok-reserve.ensures.room
