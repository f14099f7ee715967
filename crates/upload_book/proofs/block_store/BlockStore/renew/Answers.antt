use Rattle.std.proofs.Common.{[], List, set, refl, ap, ◌∙◌}
use Rattle.upload_book.specs.declared.stored_tenant.StoredTenant.{StoredTenant as KeptTenant}
use Rattle.upload_book.specs.BlockStore.{plain_in, part_at}
use Rattle.upload_book.specs.inside.Places.{with_upload, with_bytes}
use Rattle.upload_book.specs.inside.Kept.{store_of}
use Rattle.upload_book.specs.Stored.{StoredUpload}
use Rattle.upload_book.specs.TenantBook.{TenantBook, Entry}
use Rattle.upload_book.specs.Upload.{Upload}
use Rattle.upload_book.proofs.Store.StoreLemmas.{IsPart-read, IsEntry-read, own-kind, at-place, room-kept}
use Rattle.upload_book.proofs.Store.StoreRenew.{IsRenewed, IsKept-renewed, plain-renewed, charge-renewed}
use Rattle.std.specs.Vec.{with_item}
use Rattle.upload_book.proofs.block_store.BlockStore.renew.Goals as goal

-- the part with the upload as it is told
after : goal.After-self-1 → KeptTenant
after c = record (c.index_mut-stored_tenant.result.now) { uploads = with_item c.index_mut-stored_tenant.result.now.uploads c.args.place c.renew.new.self }

renewed : (c : goal.After-self-1) → IsRenewed c.self.inside c.args.tenant c.args.place c.index_mut-stored_tenant.result.now (after c) c.index_mut.result.now c.args.declared c.args.expires
unfolding after
renewed c =
    let part = IsPart-read c.self.inside c.args.self.now c.args.tenant c.index_mut-stored_tenant.result.now c.self.view_is c.requires.tenant c.index_mut-stored_tenant.ensures.value in
    let entry = IsEntry-read c.self.inside c.args.self.now c.args.tenant c.args.place c.index_mut-stored_tenant.result.now c.index_mut.result.now c.self.view_is part c.requires.place c.index_mut.ensures.value in
    record {
      part = part;
      entry = entry;
      own = own-kind c.self.inside c.args.self.now c.args.tenant c.args.place c.index_mut-stored_tenant.result.now c.index_mut.result.now c.self.view_is part entry c.requires.own;
      quota = refl;
      next = refl;
      charge = refl;
      uploads = ap (set c.index_mut-stored_tenant.result.now.uploads.items c.args.place) c.renew.ensures;
      room = room-kept c.self.inside c.args.tenant c.args.place _ c.index_mut-stored_tenant.result.now c.index_mut.result.now c.renew.new.self c.self.invariant part entry (ap (λ (e : Entry StoredUpload). e.kept.boxed) c.renew.ensures);
    }

pub invariant_of-self : goal.invariant_of-self
unfolding after
invariant_of-self c =
    IsKept-renewed c.self.inside c.args.tenant c.args.place c.index_mut-stored_tenant.result.now (after c) c.index_mut.result.now c.args.declared c.args.expires c.self.invariant (renewed c)

pub returns-clause-plain : goal.returns-clause-plain
unfolding after
returns-clause-plain c =
    let is = renewed c in
    let v = c.self.inside in
    let t = c.args.tenant in
    let i = c.args.place in
    let told : Entry StoredUpload → Upload → List TenantBook =
    λ e u. set (plain_in (store_of v)) t (with_upload (part_at (store_of v) t) i (record { id = e.id; kept = with_bytes u [] c.args.declared c.args.expires })) in
    rw (← c.self.view_is) (plain-renewed v t i c.index_mut-stored_tenant.result.now (after c) c.index_mut.result.now c.args.declared c.args.expires c.self.invariant is ∙ at-place v t i c.index_mut-stored_tenant.result.now c.index_mut.result.now is.part is.entry told)

pub returns-clause-charge : goal.returns-clause-charge
unfolding after
returns-clause-charge c =
    rw (← c.self.view_is) (charge-renewed c.self.inside c.args.tenant c.args.place c.index_mut-stored_tenant.result.now (after c) c.index_mut.result.now c.args.declared c.args.expires c.self.invariant (renewed c))
