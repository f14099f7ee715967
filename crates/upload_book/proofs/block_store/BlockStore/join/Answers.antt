use Rattle.std.proofs.Common.{◌+◌, List, [], ◌∷◌, ◌++◌, length, map, refl, sym, ap, ◌∙◌, subst, arith}
use Rattle.std.proofs.Math.ListN.{length-map}
use Rattle.upload_book.specs.Concat.{joined_len}
use Rattle.upload_book.specs.declared.pieces.Piece.{Piece}
use Rattle.upload_book.specs.declared.stored_tenant.StoredTenant.{StoredTenant as KeptTenant}
use Rattle.upload_book.specs.BlockStore.{BlockStore, rows_at}
use Rattle.upload_book.specs.inside.Places.{AreFew}
use Rattle.upload_book.specs.NewFinal.{NewFinal}
use Rattle.upload_book.specs.Stored.{StoredUpload}
use Rattle.upload_book.specs.inside.Pieces.{as_piece}
use Rattle.upload_book.specs.inside.Texts.{is_boxed}
use Rattle.upload_book.specs.TenantBook.{Entry}
use Rattle.upload_book.proofs.Lawful.TextLemmas.{final_concat-fits, kept_metadata-fits}
use Rattle.upload_book.proofs.Store.StoreJoin.{JoinsIn, JoinsIn-held, IsJoined, joined-held, joined-len, listed-read, part-there, IsKept-joined, plain-joined, charge-joined, Joins-joined}
use Rattle.upload_book.proofs.Store.StoreLemmas.{IsPart-read, room-more, room-part, spare-some}
use Rattle.upload_book.proofs.block_store.BlockStore.join.Goals as goal

pub hold_each-requires-clause-held : goal.hold_each-requires-clause-held
hold_each-requires-clause-held c =
    let v = c.self.inside in
    let found = part-there v c.args.self.now c.args.tenant c.self.view_is c.requires.tenant in
    let pieces : List Piece = map as_piece c.args.ready.unheld.items in
    let segments = listed-read v c.args.self.now c.args.tenant found.0 c.args.ready.new.parts c.args.ready.new.parts c.args.ready.now pieces c.self.view_is found.1 refl c.requires.listed.pieces in
    joined-held v c.args.tenant found.0 c.args.ready.new.parts c.args.ready.now pieces c.self.invariant found.1 (subst (λ (s : BlockStore). AreFew s c.args.tenant) (sym c.self.view_is) c.requires.few) segments
    (omega (arith, c.requires.listed.few, c.requires.parts, length-map c.args.ready.unheld.items as_piece))

pub placed-texts-requires-clause-metadata : goal.placed-texts-requires-clause-metadata
placed-texts-requires-clause-metadata c =
    omega (arith, kept_metadata-fits _ c.requires.metadata, ap (λ (new : NewFinal). length new.metadata) c.new.view_is)

pub placed-texts-requires-clause-concat : goal.placed-texts-requires-clause-concat
placed-texts-requires-clause-concat c =
    omega (arith, final_concat-fits _ c.requires.concat, ap (λ (new : NewFinal). length new.concat) c.new.view_is)

-- there is a box for the texts, where no memory was taken for them
pub placed-texts-requires-clause-spare : goal.placed-texts-requires-clause-spare
placed-texts-requires-clause-spare c =
    let part = IsPart-read c.self.inside c.args.self.now c.args.tenant c.index_mut-stored_tenant.result.now c.self.view_is c.requires.tenant c.index_mut-stored_tenant.ensures.value in
    spare-some c.self.inside c.args.self.now c.args.tenant c.index_mut-stored_tenant.result.now c.args.ready.texts c.args.ready.new.metadata c.args.ready.new.concat c.self.invariant c.self.view_is part c.requires.room c.requires.texts

pub joined-upload-requires-clause-len : goal.joined-upload-requires-clause-len
joined-upload-requires-clause-len c =
    let joins = JoinsIn-held c.self.inside c.args.self.now c.args.tenant c.index_mut-stored_tenant.result.now c.args.ready.new.parts c.args.ready.new c.args.ready.now c.args.ready.unheld.items c.args.ready.pieces.items c.hold_each.new.pieces.items c.hold_each.new.pool
    c.self.view_is (IsPart-read c.self.inside c.args.self.now c.args.tenant c.index_mut-stored_tenant.result.now c.self.view_is c.requires.tenant c.index_mut-stored_tenant.ensures.value) refl
    c.requires.listed.pieces c.requires.listed.empty c.hold_each.ensures.pieces c.hold_each.ensures.holds in
    c.requires.len ∙ ap (λ (s : BlockStore). joined_len (rows_at s c.args.tenant c.args.ready.new.parts c.args.ready.now)) (sym c.self.view_is)
    ∙ joined-len c.self.inside c.args.tenant c.index_mut-stored_tenant.result.now c.args.ready.new.parts c.args.ready.now c.hold_each.new.pieces.items c.self.invariant joins.part joins.segments

-- the part is read, and the pieces are those that were listed
joins : (c : goal.After-self-1) → JoinsIn c.self.inside c.args.tenant c.index_mut-stored_tenant.result.now c.args.ready.new c.args.ready.now c.hold_each.new.pieces.items c.hold_each.new.pool
joins c =
    JoinsIn-held c.self.inside c.args.self.now c.args.tenant c.index_mut-stored_tenant.result.now c.args.ready.new.parts c.args.ready.new c.args.ready.now c.args.ready.unheld.items c.args.ready.pieces.items c.hold_each.new.pieces.items c.hold_each.new.pool
    c.self.view_is (IsPart-read c.self.inside c.args.self.now c.args.tenant c.index_mut-stored_tenant.result.now c.self.view_is c.requires.tenant c.index_mut-stored_tenant.ensures.value) refl
    c.requires.listed.pieces c.requires.listed.empty c.hold_each.ensures.pieces c.hold_each.ensures.holds

-- the part with the upload
after : goal.After-self-1 → KeptTenant
after c = record (c.index_mut-stored_tenant.result.now) {
  next = c.index_mut-stored_tenant.result.now.next + 1;
  uploads = c.push_reserved.new.self;
  spare = c.placed-texts.new.spare;
}

joined : (c : goal.After-self-1) → IsJoined c.self.inside c.index_mut-stored_tenant.result.now (after c) c.args.ready.new c.hold_each.new.pieces.items c.args.ready.expires
unfolding after
joined c = record {
  quota = refl;
  next = refl;
  charge = refl;
  boxed = is_boxed c.placed-texts.result;
  uploads = c.push_reserved.ensures.items ∙ ap (λ (e : Entry StoredUpload). c.index_mut-stored_tenant.result.now.uploads.items ++ e ∷ []) c.joined-upload.ensures;
  room =
      let room = room-part c.self.inside c.args.tenant c.index_mut-stored_tenant.result.now c.self.invariant (joins c).part in
      room-more c.self.inside.room c.index_mut-stored_tenant.result.now (after c) c.joined-upload.result c.args.ready.texts c.args.ready.new.metadata c.args.ready.new.concat (is_boxed c.placed-texts.result) room (rw (← c.self.view_is) at c.requires.texts) c.placed-texts.ensures.kind
      (ap (λ (e : Entry StoredUpload). e.kept.boxed) c.joined-upload.ensures) c.push_reserved.ensures.items c.push_reserved.ensures.len c.push_reserved.ensures.capacity c.placed-texts.ensures.spare c.placed-texts.ensures.capacity;
}

pub invariant_of-self : goal.invariant_of-self
unfolding after
invariant_of-self c =
    IsKept-joined c.self.inside c.args.tenant c.index_mut-stored_tenant.result.now (after c) c.args.ready.new c.args.ready.now c.hold_each.new.pieces.items c.args.ready.expires c.hold_each.new.pool c.self.invariant (joins c) (joined c)

pub returns-clause-plain : goal.returns-clause-plain
unfolding after
returns-clause-plain c =
    rw (← c.self.view_is) (plain-joined c.self.inside c.args.tenant c.index_mut-stored_tenant.result.now (after c) c.args.ready.new c.args.ready.now c.hold_each.new.pieces.items c.args.ready.expires c.hold_each.new.pool c.self.invariant (joins c) (joined c))

pub returns-clause-joins : goal.returns-clause-joins
unfolding after
returns-clause-joins c =
    rw (← c.self.view_is) (Joins-joined c.self.inside c.args.tenant c.index_mut-stored_tenant.result.now (after c) c.args.ready.new c.args.ready.now c.hold_each.new.pieces.items c.args.ready.expires c.hold_each.new.pool c.self.invariant (joins c) (joined c))

pub returns-clause-charge : goal.returns-clause-charge
unfolding after
returns-clause-charge c =
    rw (← c.self.view_is) (charge-joined c.self.inside c.args.tenant c.index_mut-stored_tenant.result.now (after c) c.args.ready.new c.args.ready.now c.hold_each.new.pieces.items c.args.ready.expires c.hold_each.new.pool c.self.invariant (joins c) (joined c))
