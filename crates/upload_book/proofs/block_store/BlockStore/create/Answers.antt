use Rattle.std.proofs.Common.{◌≡◌, ℕ, List, subst, ◌+◌, [], ◌∷◌, ◌++◌, length, refl, ap, ◌∙◌, arith}
use Rattle.block_pool.specs.Blocks.{Blocks}
use Rattle.block_bodies.specs.Bodies.{Chain}
use Rattle.block_bodies.specs.Changes.{Puts}
use Rattle.upload_book.specs.Account.{blocks_between}
use Rattle.upload_book.specs.declared.stored_tenant.StoredTenant.{StoredTenant as KeptTenant}
use Rattle.upload_book.specs.declared.block_store.BlockStore.TheInside.{Inside}
use Rattle.upload_book.specs.NewUpload.{NewUpload}
use Rattle.upload_book.specs.Stored.{StoredUpload}
use Rattle.upload_book.specs.inside.Pieces.{no_chain}
use Rattle.upload_book.specs.inside.Texts.{is_boxed}
use Rattle.upload_book.proofs.Store.StoreReserve.{puts-roomy}
use Rattle.upload_book.specs.TenantBook.{Entry}
use Rattle.upload_book.proofs.Lawful.TextLemmas.{kept_metadata-fits, new_concat-fits}
use Rattle.upload_book.proofs.Store.StoreAppend.{charge-few}
use Rattle.upload_book.proofs.Store.StoreCreate.{IsMade, IsKept-made, made-taken, plain-made, charge-made}
use Rattle.upload_book.proofs.Store.StoreLemmas.{IsPart-read, room-more, room-part, spare-some}
use Rattle.upload_book.proofs.block_store.BlockStore.create.Goals as goal

-- the bytes are put into a body that has none
puts_first : (v : Inside) (body : Chain) (bytes : List ℕ) (q : Blocks) (y : Chain) → body ≡ record no_chain { room = body.room } → Puts v.pool body bytes q y → Puts v.pool no_chain bytes q y
puts_first v body bytes q y empty f =
    puts-roomy v.pool no_chain body.room bytes q y (subst (λ (x : Chain). Puts v.pool x bytes q y) empty f)

-- so its blocks are those that were taken
blocks_taken : (body y : Chain) (taken : ℕ) → body ≡ record no_chain { room = body.room } → length y.blocks ≡ length body.blocks + taken → length y.blocks ≡ taken
blocks_taken body y taken empty is = omega (arith, is, ap (λ (x : Chain). length x.blocks) empty)

pub placed-texts-requires-clause-metadata : goal.placed-texts-requires-clause-metadata
placed-texts-requires-clause-metadata c =
    omega (arith, kept_metadata-fits _ c.requires.metadata, ap (λ (new : NewUpload). length new.metadata) c.new.view_is)

pub placed-texts-requires-clause-concat : goal.placed-texts-requires-clause-concat
placed-texts-requires-clause-concat c =
    omega (arith, new_concat-fits _ _ c.requires.concat, ap (λ (new : NewUpload). length new.concat) c.new.view_is)

-- there is a box for the texts, where no memory was taken for them
pub placed-texts-requires-clause-spare : goal.placed-texts-requires-clause-spare
placed-texts-requires-clause-spare c =
    let part = IsPart-read c.self.inside c.args.self.now c.args.tenant c.index_mut-stored_tenant.result.now c.self.view_is c.requires.tenant c.index_mut-stored_tenant.ensures.value in
    spare-some c.self.inside c.args.self.now c.args.tenant c.index_mut-stored_tenant.result.now c.args.taken_texts c.args.new.now.metadata c.args.new.now.concat c.self.invariant c.self.view_is part c.requires.room c.requires.texts

pub overflow_add-stored_tenant-2 : goal.overflow_add-stored_tenant-2
overflow_add-stored_tenant-2 c =
    let v = c.self.inside in
    let part = IsPart-read v c.args.self.now c.args.tenant c.index_mut-stored_tenant.result.now c.self.view_is c.requires.tenant c.index_mut-stored_tenant.ensures.value in
    let taken = made-taken v c.args.bytes.now c.put-taken.new.pool c.put-taken.new.self c.put-taken.result (puts_first v c.args.body c.args.bytes.now c.put-taken.new.pool c.put-taken.new.self c.requires.empty c.put-taken.ensures.puts) (blocks_taken c.args.body c.put-taken.new.self c.put-taken.result c.requires.empty c.put-taken.ensures.taken) in
    omega (arith, taken, charge-few v c.args.tenant c.index_mut-stored_tenant.result.now (blocks_between v.pool.block_size 0 (length c.args.bytes.now)) c.self.invariant part (rw (← c.self.view_is) at c.requires.blocks))

-- the part with the upload
after : goal.After-self-1 → KeptTenant
after c = record (c.index_mut-stored_tenant.result.now) {
  next = c.index_mut-stored_tenant.result.now.next + 1;
  charge = c.index_mut-stored_tenant.result.now.charge + c.put-taken.result;
  uploads = c.push_reserved.new.self;
  spare = c.placed-texts.new.spare;
}

-- it has one more, and a spare box less
made : (c : goal.After-self-1) → IsMade c.self.inside c.args.tenant c.index_mut-stored_tenant.result.now (after c) c.args.new.now c.args.bytes.now c.put-taken.new.pool c.put-taken.new.self c.args.expires c.put-taken.result
unfolding after
made c =
    let part = IsPart-read c.self.inside c.args.self.now c.args.tenant c.index_mut-stored_tenant.result.now c.self.view_is c.requires.tenant c.index_mut-stored_tenant.ensures.value in
    let room = room-part c.self.inside c.args.tenant c.index_mut-stored_tenant.result.now c.self.invariant part in
    record {
      part = part;
      puts = puts_first c.self.inside c.args.body c.args.bytes.now c.put-taken.new.pool c.put-taken.new.self c.requires.empty c.put-taken.ensures.puts;
      once = c.put-taken.ensures.once;
      taken_is = blocks_taken c.args.body c.put-taken.new.self c.put-taken.result c.requires.empty c.put-taken.ensures.taken;
      quota = refl;
      next = refl;
      charge = refl;
      boxed = is_boxed c.placed-texts.result;
      uploads = c.push_reserved.ensures.items ∙ ap (λ (e : Entry StoredUpload). c.index_mut-stored_tenant.result.now.uploads.items ++ e ∷ []) c.new-upload.ensures;
      room = room-more c.self.inside.room c.index_mut-stored_tenant.result.now (after c) c.new-upload.result c.args.taken_texts c.args.new.now.metadata c.args.new.now.concat (is_boxed c.placed-texts.result) room (rw (← c.self.view_is) at c.requires.texts) c.placed-texts.ensures.kind
          (ap (λ (e : Entry StoredUpload). e.kept.boxed) c.new-upload.ensures) c.push_reserved.ensures.items c.push_reserved.ensures.len c.push_reserved.ensures.capacity c.placed-texts.ensures.spare c.placed-texts.ensures.capacity;
    }

pub invariant_of-self : goal.invariant_of-self
unfolding after
invariant_of-self c =
    IsKept-made c.self.inside c.args.tenant c.index_mut-stored_tenant.result.now (after c) c.args.new.now c.args.bytes.now c.put-taken.new.pool c.put-taken.new.self c.args.expires c.put-taken.result c.self.invariant (made c)

pub returns-clause-plain : goal.returns-clause-plain
unfolding after
returns-clause-plain c =
    rw (← c.self.view_is) (plain-made c.self.inside c.args.tenant c.index_mut-stored_tenant.result.now (after c) c.args.new.now c.args.bytes.now c.put-taken.new.pool c.put-taken.new.self c.args.expires c.put-taken.result c.self.invariant (made c))

pub returns-clause-charge : goal.returns-clause-charge
unfolding after
returns-clause-charge c =
    rw (← c.self.view_is) (charge-made c.self.inside c.args.tenant c.index_mut-stored_tenant.result.now (after c) c.args.new.now c.args.bytes.now c.put-taken.new.pool c.put-taken.new.self c.args.expires c.put-taken.result c.self.invariant (made c))
