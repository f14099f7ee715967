use Rattle.std.proofs.Common.{◌≡◌, ℕ, ◌+◌, ◌-◌, ◌<◌, List, [], ◌∷◌, ◌++◌, length, get_or, Option, unwrap_or, refl, sym, ap, ap₂, ◌∙◌, subst, arith}
use Rattle.std.proofs.lemmas.List.{get_or_read}
use Rattle.block_pool.specs.Blocks.{Blocks, free_in}
use Rattle.upload_book.specs.BlockStore.{BlockStore}
use Rattle.upload_book.specs.declared.block_store.BlockStore.TheInside.{Inside}
use Rattle.upload_book.specs.declared.pieces.Piece.{Piece}
use Rattle.upload_book.specs.declared.ready.ReadyBack.{ReadyBack}
use Rattle.upload_book.specs.declared.stored_tenant.StoredTenant.{StoredTenant as KeptTenant}
use Rattle.upload_book.specs.inside.FinalBack.{BringsTo, MayBringEach, brought_in, final_named}
use Rattle.upload_book.specs.inside.Kept.{HasUploadRoom, IsKept, stored_tenant_of, store_of}
use Rattle.upload_book.specs.inside.Pieces.{final_of}
use Rattle.upload_book.specs.inside.Places.{MayKeep}
use Rattle.upload_book.specs.inside.Texts.{is_boxed}
use Rattle.upload_book.specs.NewFinal.{NewFinal}
use Rattle.upload_book.specs.snapshot.Restored.{RestoredSegment, RestoredUpload}
use Rattle.upload_book.specs.Stored.{StoredUpload, pieces_len, pieces_of}
use Rattle.upload_book.specs.TenantBook.{Entry}
use Rattle.upload_book.proofs.Lawful.TextLemmas.{concat-fits, kept_metadata-fits}
use Rattle.upload_book.proofs.Store.StoreAppend.{charge-few}
use Rattle.upload_book.proofs.Store.StoreBack.{IsKept-back, back-len, back-may, back-used, plain-back, sizes-back}
use Rattle.upload_book.proofs.Store.StoreLemmas.{IsPart, IsPart-read, order-part, room-more, room-part, spare-some}
use Rattle.upload_book.proofs.block_store.BlockStore.put_back.Goals as goal

-- what was read where a final upload is put back
record IsRead (v : Inside) (w : BlockStore) (t : ℕ) (a b : KeptTenant) (r : ReadyBack) (segments : List RestoredSegment) (q : Blocks) (pieces : List Piece) : Type 0 where
  kept : IsKept v
  is : store_of v ≡ w
  asked : MayKeep w t r
  first : a ≡ get_or v.stored_tenants.items t a
  second : b ≡ get_or v.stored_tenants.items t b
  its : segments ≡ r.upload.segments
  brings : BringsTo v.pool (pieces_of (stored_tenant_of a)) segments (length segments) q pieces

module _ {v : Inside} {w : BlockStore} {t : ℕ} {a b : KeptTenant} {r : ReadyBack} {segments : List RestoredSegment} {q : Blocks} {pieces : List Piece} (s : IsRead v w t a b r segments q pieces) where
  part : IsPart v t b
  part = IsPart-read v w t b s.is s.asked.tenant s.second

  may : MayKeep (store_of v) t r
  may = subst (λ (w : BlockStore). MayKeep w t r) (sym s.is) s.asked

  -- both reads are the same
  same : a ≡ b
  same = get_or_read v.stored_tenants.items t a part.within s.first b ∙ sym s.second

  had : BringsTo v.pool (pieces_of (stored_tenant_of b)) r.upload.segments (length r.upload.segments) q pieces
  had =
      subst (λ (l : List RestoredSegment). BringsTo v.pool (pieces_of (stored_tenant_of b)) l (length l) q pieces) s.its
      (subst (λ (a : KeptTenant). BringsTo v.pool (pieces_of (stored_tenant_of a)) segments (length segments) q pieces) same s.brings)

  used : free_in q + brought_in v.pool.block_size r.upload.segments ≡ free_in v.pool
  used = back-used v t b r s.kept part may q pieces had

  -- so many blocks were taken
  taken_is : (before after taken : ℕ) → before ≡ free_in v.pool → after ≡ free_in q → taken ≡ before - after → taken ≡ brought_in v.pool.block_size r.upload.segments
  taken_is before after taken was is at = omega (arith, used, was, is, at)

  free_is : (taken : ℕ) → taken ≡ brought_in v.pool.block_size r.upload.segments → taken + free_in q ≡ free_in v.pool
  free_is taken at = omega (arith, used, at)

  fits : (taken : ℕ) → taken ≡ brought_in v.pool.block_size r.upload.segments → b.charge + taken < 18446744073709551616
  fits taken at = omega (arith, charge-few v t b (brought_in v.pool.block_size r.upload.segments) s.kept part may.fits, at)

  len : (found : Option ℕ) → found ≡ r.upload.declared → unwrap_or found 0 ≡ pieces_len pieces
  len found is = ap (λ (n : Option ℕ). unwrap_or n 0) is ∙ back-len v t b r s.kept part may q pieces had

pub bring_each-requires-clause-order : goal.bring_each-requires-clause-order
bring_each-requires-clause-order c =
    let old = c.index.result.now in
    order-part c.self.inside c.args.tenant old c.self.invariant (IsPart-read c.self.inside c.args.self.now c.args.tenant old c.self.view_is c.requires.tenant c.index.ensures)

pub bring_each-requires-clause-may : goal.bring_each-requires-clause-may
bring_each-requires-clause-may c =
    let v = c.self.inside in
    let old = c.index.result.now in
    let part = IsPart-read v c.args.self.now c.args.tenant old c.self.view_is c.requires.tenant c.index.ensures in
    subst (λ (l : List RestoredSegment). MayBringEach v.pool (pieces_of (stored_tenant_of old)) l c.args.ready.bodies.items) (sym (ap (λ (u : RestoredUpload). u.segments) c.upload.view_is))
    (back-may v c.args.tenant old c.args.ready c.self.invariant part (subst (λ (w : BlockStore). MayKeep w c.args.tenant c.args.ready) (sym c.self.view_is) c.requires))

pub overflow_sub-before : goal.overflow_sub-before
overflow_sub-before c =
    let s : IsRead c.self.inside c.args.self.now c.args.tenant c.index.result.now c.index.result.now c.args.ready c.upload.inside.segments.now c.bring_each.new.pool c.bring_each.new.pieces.items =
    record { kept = c.self.invariant; is = c.self.view_is; asked = c.requires; first = c.index.ensures; second = c.index.ensures; its = ap (λ (u : RestoredUpload). u.segments) c.upload.view_is; brings = c.bring_each.ensures } in
    omega (arith, used s, c.free.ensures, c.free-before.ensures)

pub joined-upload-requires-clause-len : goal.joined-upload-requires-clause-len
joined-upload-requires-clause-len c =
    let s : IsRead c.self.inside c.args.self.now c.args.tenant c.index.result.now c.index.result.now c.args.ready c.upload.inside.segments.now c.bring_each.new.pool c.bring_each.new.pieces.items =
    record { kept = c.self.invariant; is = c.self.view_is; asked = c.requires; first = c.index.ensures; second = c.index.ensures; its = ap (λ (u : RestoredUpload). u.segments) c.upload.view_is; brings = c.bring_each.ensures } in
    c.unwrap_or-len.ensures ∙ len s c.upload.inside.declared (ap (λ (u : RestoredUpload). u.declared) c.upload.view_is)

pub placed-texts-requires-clause-metadata : goal.placed-texts-requires-clause-metadata
placed-texts-requires-clause-metadata c =
    omega (arith, kept_metadata-fits _ c.requires.form.metadata, ap (λ (u : RestoredUpload). length u.metadata) c.upload.view_is)

pub placed-texts-requires-clause-concat : goal.placed-texts-requires-clause-concat
placed-texts-requires-clause-concat c =
    omega (arith, concat-fits _ _ c.requires.form.concat, ap (λ (u : RestoredUpload). length u.concat) c.upload.view_is)

-- there is a box for the texts, where no memory was taken for them
pub placed-texts-requires-clause-spare : goal.placed-texts-requires-clause-spare
placed-texts-requires-clause-spare c =
    let part = IsPart-read c.self.inside c.args.self.now c.args.tenant c.index_mut-stored_tenant.result.now c.self.view_is c.requires.tenant c.index_mut-stored_tenant.ensures.value in
    spare-some c.self.inside c.args.self.now c.args.tenant c.index_mut-stored_tenant.result.now c.args.ready.texts c.args.ready.upload.metadata c.args.ready.upload.concat c.self.invariant c.self.view_is part c.requires.room c.requires.texts

pub overflow_add-stored_tenant-2 : goal.overflow_add-stored_tenant-2
overflow_add-stored_tenant-2 c =
    let s : IsRead c.self.inside c.args.self.now c.args.tenant c.index.result.now c.index_mut-stored_tenant.result.now c.args.ready c.upload.inside.segments.now c.bring_each.new.pool c.bring_each.new.pieces.items =
    record { kept = c.self.invariant; is = c.self.view_is; asked = c.requires; first = c.index.ensures; second = c.index_mut-stored_tenant.ensures.value; its = ap (λ (u : RestoredUpload). u.segments) c.upload.view_is; brings = c.bring_each.ensures } in
    omega (arith, fits s c.from-taken.result (taken_is s c.free-before.result c.free.result c.from-taken.result c.free-before.ensures c.free.ensures c.from-taken.ensures))

-- the part with the upload
after : goal.After-self-1 → KeptTenant
after c = record (c.index_mut-stored_tenant.result.now) {
  next = c.index_mut-stored_tenant.result.now.next + 1;
  charge = c.index_mut-stored_tenant.result.now.charge + c.from-taken.result;
  uploads = c.push_reserved.new.self;
  spare = c.placed-texts.new.spare;
}

read : (c : goal.After-self-1) → IsRead c.self.inside c.args.self.now c.args.tenant c.index.result.now c.index_mut-stored_tenant.result.now c.args.ready c.upload.inside.segments.now c.bring_each.new.pool c.bring_each.new.pieces.items
read c = record { kept = c.self.invariant; is = c.self.view_is; asked = c.requires; first = c.index.ensures; second = c.index_mut-stored_tenant.ensures.value; its = ap (λ (u : RestoredUpload). u.segments) c.upload.view_is; brings = c.bring_each.ensures }

free : (c : goal.After-self-1) → c.from-taken.result + free_in c.bring_each.new.pool ≡ free_in c.self.inside.pool
free c = free_is (read c) c.from-taken.result (taken_is (read c) c.free-before.result c.free.result c.from-taken.result c.free-before.ensures c.free.ensures c.from-taken.ensures)

-- it has one more,
uploads : (c : goal.After-self-1) → c.push_reserved.new.self.items ≡ c.index_mut-stored_tenant.result.now.uploads.items ++ record { id = c.index_mut-stored_tenant.result.now.next; kept = final_of (is_boxed c.placed-texts.result) (final_named c.args.ready.upload) c.bring_each.new.pieces.items c.args.ready.upload.expires } ∷ []
uploads c =
    let id = c.index_mut-stored_tenant.result.now.next in
    let pieces : List Piece = c.bring_each.new.pieces.items in
    c.push_reserved.ensures.items ∙ ap (λ (e : Entry StoredUpload). c.index_mut-stored_tenant.result.now.uploads.items ++ e ∷ []) (c.joined-upload.ensures ∙ ap₂ (λ (new : NewFinal) (expires : Option ℕ). record { id = id; kept = final_of (is_boxed c.placed-texts.result) new pieces expires }) c.as_final.ensures (ap (λ (u : RestoredUpload). u.expires) c.upload.view_is))

-- and a spare box less
room : (c : goal.After-self-1) → HasUploadRoom c.self.inside.room (after c)
unfolding after
room c =
    let had = room-part c.self.inside c.args.tenant c.index_mut-stored_tenant.result.now c.self.invariant (part (read c)) in
    room-more c.self.inside.room c.index_mut-stored_tenant.result.now (after c) c.joined-upload.result c.args.ready.texts c.args.ready.upload.metadata c.args.ready.upload.concat (is_boxed c.placed-texts.result) had (rw (← c.self.view_is) at c.requires.texts) c.placed-texts.ensures.kind
    (ap (λ (e : Entry StoredUpload). e.kept.boxed) c.joined-upload.ensures) c.push_reserved.ensures.items c.push_reserved.ensures.len c.push_reserved.ensures.capacity c.placed-texts.ensures.spare c.placed-texts.ensures.capacity

pub invariant_of-self : goal.invariant_of-self
unfolding after
invariant_of-self c =
    IsKept-back c.self.inside c.args.tenant c.index_mut-stored_tenant.result.now c.args.ready c.self.invariant (part (read c)) (may (read c)) c.bring_each.new.pool c.bring_each.new.pieces.items (had (read c)) (is_boxed c.placed-texts.result) (after c) c.from-taken.result (free c) refl refl refl (uploads c) (room c)

pub returns-clause-plain : goal.returns-clause-plain
unfolding after
returns-clause-plain c =
    rw (← c.self.view_is) (plain-back c.self.inside c.args.tenant c.index_mut-stored_tenant.result.now c.args.ready c.self.invariant (part (read c)) (may (read c)) c.bring_each.new.pool c.bring_each.new.pieces.items (had (read c)) (is_boxed c.placed-texts.result) (after c) c.from-taken.result (free c) refl refl refl (uploads c) (room c))

pub returns-clause-taken : goal.returns-clause-taken
returns-clause-taken c =
    rw (← c.self.view_is) (taken_is (read c) c.free-before.result c.free.result c.from-taken.result c.free-before.ensures c.free.ensures c.from-taken.ensures)

pub returns-clause-sizes : goal.returns-clause-sizes
returns-clause-sizes c =
    rw (← c.self.view_is) (sizes-back c.self.inside c.args.tenant c.index_mut-stored_tenant.result.now c.args.ready c.self.invariant (part (read c)) (may (read c)) c.bring_each.new.pool c.bring_each.new.pieces.items (had (read c)))
