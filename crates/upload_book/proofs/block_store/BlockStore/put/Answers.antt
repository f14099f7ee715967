use Rattle.std.proofs.Common.{◌≡◌, ℕ, ◌+◌, List, set, length, ◌≢◌, refl, ap, ap₂, ◌∙◌, arith}
use Rattle.std.specs.Vec.{with_item}
use Rattle.block_pool.specs.Blocks.{Blocks}
use Rattle.block_bodies.specs.Bodies.{Chain, blocks_for, blocks_with}
use Rattle.block_bodies.specs.Changes.{Puts}
use Rattle.upload_book.specs.declared.head_row.Kind.TheVariants.{Final}
use Rattle.upload_book.specs.declared.block_store.BlockStore.TheInside.{Inside}
use Rattle.upload_book.specs.Account.{blocks_between}
use Rattle.upload_book.specs.declared.stored_tenant.StoredTenant.{StoredTenant as KeptTenant}
use Rattle.upload_book.specs.inside.Kept.{stored_tenant_of, store_of, IsKept}
use Rattle.upload_book.proofs.Store.Pieces.{IsEntry}
use Rattle.upload_book.specs.BlockStore.{plain_in, part_at, upload_at}
use Rattle.upload_book.specs.inside.Places.{with_head, with_upload, with_bytes}
use Rattle.upload_book.specs.Stored.{StoredUpload}
use Rattle.upload_book.specs.inside.Pieces.{own_chain}
use Rattle.upload_book.specs.TenantBook.{TenantBook, Entry}
use Rattle.upload_book.specs.Upload.{Upload, offset_of}
use Rattle.upload_book.proofs.Store.StoreAppend.{PutsIn, IsPutIn, alone-read, body-read, last-read, needs-read, charge-few, IsKept-put, plain-put, charge-put}
use Rattle.upload_book.proofs.Store.StoreLemmas.{IsPart, IsPart-read, IsEntry-read, own-kind, at-place, room-kept}
use Rattle.upload_book.proofs.block_store.BlockStore.put.Goals as goal

pub put-taken-requires-clause-body : goal.put-taken-requires-clause-body
put-taken-requires-clause-body c =
    let part = IsPart-read c.self.inside c.args.self.now c.args.tenant c.index_mut-stored_tenant.result.now c.self.view_is c.requires.tenant c.index_mut-stored_tenant.ensures.value in
    let entry = IsEntry-read c.self.inside c.args.self.now c.args.tenant c.args.place c.index_mut-stored_tenant.result.now c.index_mut-upload.result.now c.self.view_is part c.requires.place c.index_mut-upload.ensures.value in
    let own = own-kind c.self.inside c.args.self.now c.args.tenant c.args.place c.index_mut-stored_tenant.result.now c.index_mut-upload.result.now c.self.view_is part entry c.requires.alone.own in
    body-read c.self.inside c.args.tenant c.args.place c.index_mut-stored_tenant.result.now c.index_mut-upload.result.now c.self.invariant part entry own

pub put-taken-requires-clause-last : goal.put-taken-requires-clause-last
put-taken-requires-clause-last c some =
    let part = IsPart-read c.self.inside c.args.self.now c.args.tenant c.index_mut-stored_tenant.result.now c.self.view_is c.requires.tenant c.index_mut-stored_tenant.ensures.value in
    let entry = IsEntry-read c.self.inside c.args.self.now c.args.tenant c.args.place c.index_mut-stored_tenant.result.now c.index_mut-upload.result.now c.self.view_is part c.requires.place c.index_mut-upload.ensures.value in
    let own = own-kind c.self.inside c.args.self.now c.args.tenant c.args.place c.index_mut-stored_tenant.result.now c.index_mut-upload.result.now c.self.view_is part entry c.requires.alone.own in
    last-read c.self.inside c.args.tenant c.args.place c.index_mut-stored_tenant.result.now c.index_mut-upload.result.now c.self.invariant part entry own (alone-read c.self.inside c.args.self.now c.args.tenant c.args.place c.index_mut-stored_tenant.result.now c.index_mut-upload.result.now c.self.invariant c.self.view_is part entry c.requires.alone)

-- as many blocks are taken as lie between the upload's length and the new one
taken : (v : Inside) (t i : ℕ) (old : KeptTenant) (e : Entry StoredUpload) (bytes : List ℕ) (q : Blocks) (y : Chain) (n : ℕ) → IsKept v → IsPart v t old → IsEntry (stored_tenant_of old) i e → e.kept.kind ≢ Final
    → Puts v.pool (own_chain e.kept.pieces) bytes q y → length y.blocks ≡ length (own_chain e.kept.pieces).blocks + n
    → n ≡ blocks_between v.pool.block_size (offset_of (upload_at (store_of v) t i)) (length bytes)
taken v t i old e bytes q y n kept part entry own f more =
    let same = at-place v t i old e part entry (λ e u. blocks_between v.pool.block_size (offset_of u) (length bytes)) in
    let blocks : length y.blocks ≡ blocks_with v.pool (own_chain e.kept.pieces) (length bytes) = f.body.blocks ∙ ap₂ blocks_for f.sizes.bytes f.len in
    omega (arith, blocks, more, same, needs-read v t i old e (length bytes) kept part entry own)

pub overflow_add-stored_tenant : goal.overflow_add-stored_tenant
overflow_add-stored_tenant c =
    let part = IsPart-read c.self.inside c.args.self.now c.args.tenant c.index_mut-stored_tenant.result.now c.self.view_is c.requires.tenant c.index_mut-stored_tenant.ensures.value in
    let entry = IsEntry-read c.self.inside c.args.self.now c.args.tenant c.args.place c.index_mut-stored_tenant.result.now c.index_mut-upload.result.now c.self.view_is part c.requires.place c.index_mut-upload.ensures.value in
    let own = own-kind c.self.inside c.args.self.now c.args.tenant c.args.place c.index_mut-stored_tenant.result.now c.index_mut-upload.result.now c.self.view_is part entry c.requires.alone.own in
    let v = c.self.inside in
    let n = taken v c.args.tenant c.args.place c.index_mut-stored_tenant.result.now c.index_mut-upload.result.now c.args.bytes.now c.put-taken.new.pool (own_chain c.put-taken.new.self.kept.pieces) c.put-taken.result c.self.invariant part entry own c.put-taken.ensures.puts c.put-taken.ensures.taken in
    let room = rw (← c.self.view_is) at c.requires.room in
    omega (arith, n, charge-few v c.args.tenant c.index_mut-stored_tenant.result.now (blocks_between v.pool.block_size (offset_of (upload_at (store_of v) c.args.tenant c.args.place)) (length c.args.bytes.now)) c.self.invariant part room)

pub returns-clause-taken : goal.returns-clause-taken
returns-clause-taken c =
    let part = IsPart-read c.self.inside c.args.self.now c.args.tenant c.index_mut-stored_tenant.result.now c.self.view_is c.requires.tenant c.index_mut-stored_tenant.ensures.value in
    let entry = IsEntry-read c.self.inside c.args.self.now c.args.tenant c.args.place c.index_mut-stored_tenant.result.now c.index_mut-upload.result.now c.self.view_is part c.requires.place c.index_mut-upload.ensures.value in
    let own = own-kind c.self.inside c.args.self.now c.args.tenant c.args.place c.index_mut-stored_tenant.result.now c.index_mut-upload.result.now c.self.view_is part entry c.requires.alone.own in
    rw (← c.self.view_is) (taken c.self.inside c.args.tenant c.args.place c.index_mut-stored_tenant.result.now c.index_mut-upload.result.now c.args.bytes.now c.put-taken.new.pool (own_chain c.put-taken.new.self.kept.pieces) c.put-taken.result c.self.invariant part entry own c.put-taken.ensures.puts c.put-taken.ensures.taken)

-- the part with the upload
after : goal.After-self-1 → KeptTenant
after c = record (c.index_mut-stored_tenant.result.now) { charge = c.index_mut-stored_tenant.result.now.charge + c.put-taken.result; uploads = with_item c.index_mut-stored_tenant.result.now.uploads c.args.place c.renew.new.self }

puts : (c : goal.After-self-1) → PutsIn c.self.inside c.args.tenant c.args.place c.index_mut-stored_tenant.result.now c.index_mut-upload.result.now c.args.bytes.now c.put-taken.new.pool (own_chain c.put-taken.new.self.kept.pieces)
puts c =
    let part = IsPart-read c.self.inside c.args.self.now c.args.tenant c.index_mut-stored_tenant.result.now c.self.view_is c.requires.tenant c.index_mut-stored_tenant.ensures.value in
    let entry = IsEntry-read c.self.inside c.args.self.now c.args.tenant c.args.place c.index_mut-stored_tenant.result.now c.index_mut-upload.result.now c.self.view_is part c.requires.place c.index_mut-upload.ensures.value in
    let own = own-kind c.self.inside c.args.self.now c.args.tenant c.args.place c.index_mut-stored_tenant.result.now c.index_mut-upload.result.now c.self.view_is part entry c.requires.alone.own in
    record {
      part = part;
      entry = entry;
      own = own;
      alone = alone-read c.self.inside c.args.self.now c.args.tenant c.args.place c.index_mut-stored_tenant.result.now c.index_mut-upload.result.now c.self.invariant c.self.view_is part entry c.requires.alone;
      puts = c.put-taken.ensures.puts;
      once = c.put-taken.ensures.once;
    }

is_put : (c : goal.After-self-1) → IsPutIn c.self.inside c.args.place c.index_mut-stored_tenant.result.now (after c) c.index_mut-upload.result.now (own_chain c.put-taken.new.self.kept.pieces) c.args.declared c.args.expires c.put-taken.result
unfolding after
is_put c = record {
  quota = refl;
  next = refl;
  charge = refl;
  uploads = ap (set c.index_mut-stored_tenant.result.now.uploads.items c.args.place) (c.renew.ensures ∙ ap (λ e. with_head e c.args.declared c.args.expires) c.put-taken.ensures.upload);
  room = room-kept c.self.inside c.args.tenant c.args.place _ c.index_mut-stored_tenant.result.now c.index_mut-upload.result.now c.renew.new.self c.self.invariant (puts c).part (puts c).entry (ap (λ (e : Entry StoredUpload). e.kept.boxed) (c.renew.ensures ∙ ap (λ e. with_head e c.args.declared c.args.expires) c.put-taken.ensures.upload));
  more = c.put-taken.ensures.taken;
}

pub invariant_of-self : goal.invariant_of-self
unfolding after
invariant_of-self c =
    IsKept-put c.self.inside c.args.tenant c.args.place c.index_mut-stored_tenant.result.now (after c) c.index_mut-upload.result.now c.args.bytes.now c.put-taken.new.pool (own_chain c.put-taken.new.self.kept.pieces) c.args.declared c.args.expires c.put-taken.result c.self.invariant (puts c) (is_put c)

pub returns-clause-plain : goal.returns-clause-plain
unfolding after
returns-clause-plain c =
    let v = c.self.inside in
    let told : Entry StoredUpload → Upload → List TenantBook =
    λ e u. set (plain_in (store_of v)) c.args.tenant (with_upload (part_at (store_of v) c.args.tenant) c.args.place (record { id = e.id; kept = with_bytes u c.args.bytes.now c.args.declared c.args.expires })) in
    rw (← c.self.view_is) (plain-put v c.args.tenant c.args.place c.index_mut-stored_tenant.result.now (after c) c.index_mut-upload.result.now c.args.bytes.now c.put-taken.new.pool (own_chain c.put-taken.new.self.kept.pieces) c.args.declared c.args.expires c.put-taken.result c.self.invariant (puts c) (is_put c)
    ∙ at-place v c.args.tenant c.args.place c.index_mut-stored_tenant.result.now c.index_mut-upload.result.now (puts c).part (puts c).entry told)

pub returns-clause-charge : goal.returns-clause-charge
unfolding after
returns-clause-charge c =
    rw (← c.self.view_is) (charge-put c.self.inside c.args.tenant c.args.place c.index_mut-stored_tenant.result.now (after c) c.index_mut-upload.result.now c.args.bytes.now c.put-taken.new.pool (own_chain c.put-taken.new.self.kept.pieces) c.args.declared c.args.expires c.put-taken.result c.self.invariant (puts c) (is_put c))
