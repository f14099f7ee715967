use Rattle.std.proofs.Common.{◌≡◌, ℕ, ◌-◌, ◌<◌, Bool, List, ap, get_or, length, vec_len, arith, ◌∙◌}
use Rattle.std.specs.Prelude.{set}
use Rattle.upload_book.specs.BlockStore.{BlockStore, plain_in, stored_tenant_at}
use Rattle.upload_book.specs.declared.block_store.BlockStore.TheInside.{Inside}
use Rattle.upload_book.specs.declared.stored_tenant.StoredTenant.{StoredTenant as KeptTenant}
use Rattle.upload_book.specs.inside.Kept.{stored_tenant_of, store_of, IsKept}
use Rattle.upload_book.specs.inside.Texts.{is_boxed, is_reserved}
use Rattle.upload_book.specs.Stored.{StoredTenant, StoredUpload}
use Rattle.upload_book.specs.TenantBook.{Entry}
use Rattle.upload_book.proofs.Store.Pieces.{IsEntry, Leaves-without, without}
use Rattle.upload_book.proofs.Store.StoreLemmas.{IsPart, IsPart-read, IsEntry-read, box-fits, kind-part, room-fewer, room-part}
use Rattle.upload_book.proofs.Store.StoreGone.{GivesUp, GivesUp-upload, IsGivenUp, IsGivenUp-upload, given-held, given-within, IsKept-given, plain-given, plain-upload, charge-given}
use Rattle.upload_book.proofs.block_store.BlockStore.remove.Goals as goal

pub give_back-freed-requires : goal.give_back-freed-requires
give_back-freed-requires c =
    let part = IsPart-read c.self.inside c.args.self.now c.args.tenant c.index_mut-stored_tenant.result.now c.self.view_is c.requires.tenant c.index_mut-stored_tenant.ensures.value in
    let entry = IsEntry-read c.self.inside c.args.self.now c.args.tenant c.args.place c.index_mut-stored_tenant.result.now c.remove-upload.result c.self.view_is part c.requires.place c.remove-upload.ensures.value in
    given-held c.self.inside c.args.tenant c.index_mut-stored_tenant.result.now (without (stored_tenant_of c.index_mut-stored_tenant.result.now) c.args.place) c.remove-upload.result.kept.pieces c.self.invariant part (Leaves-without (stored_tenant_of c.index_mut-stored_tenant.result.now) c.args.place c.remove-upload.result entry)

pub overflow_sub-stored_tenant : goal.overflow_sub-stored_tenant
overflow_sub-stored_tenant c =
    let old = c.index_mut-stored_tenant.result.now in
    let part = IsPart-read c.self.inside c.args.self.now c.args.tenant old c.self.view_is c.requires.tenant c.index_mut-stored_tenant.ensures.value in
    let entry = IsEntry-read c.self.inside c.args.self.now c.args.tenant c.args.place old c.remove-upload.result c.self.view_is part c.requires.place c.remove-upload.ensures.value in
    given-within c.self.inside c.args.tenant old (without (stored_tenant_of old) c.args.place) c.remove-upload.result.kept.pieces c.give_back-freed.result.0 c.give_back-freed.new.pool c.self.invariant (GivesUp-upload c.self.inside c.args.tenant c.args.place old c.remove-upload.result c.give_back-freed.result.0 c.give_back-freed.new.pool part entry c.give_back-freed.ensures.blocks)

-- its texts lay where those of the others lie
kind-read : (v : Inside) (w : BlockStore) (t i : ℕ) (old : KeptTenant) (e : Entry StoredUpload) (boxed : Bool) → IsKept v → store_of v ≡ w → t < length w.stored_tenants → old ≡ get_or v.stored_tenants.items t old → i < length (stored_tenant_at w t).uploads → e ≡ get_or old.uploads.items i e
    → boxed ≡ e.kept.boxed → boxed ≡ is_reserved v.room
kind-read v w t i old e boxed kept is there read within at same =
    let part = IsPart-read v w t old is there read in
    same ∙ kind-part v t i old e kept part (IsEntry-read v w t i old e is part within at)

pub give_back-requires : goal.give_back-requires
give_back-requires c =
    let v = c.self.inside in
    let old = c.index_mut-stored_tenant.result.now in
    let part = IsPart-read v c.args.self.now c.args.tenant old c.self.view_is c.requires.tenant c.index_mut-stored_tenant.ensures.value in
    let kind = kind-read v c.args.self.now c.args.tenant c.args.place old c.remove-upload.result _ c.self.invariant c.self.view_is c.requires.tenant c.index_mut-stored_tenant.ensures.value c.requires.place c.remove-upload.ensures.value c.give_back-freed.ensures.kind in
    box-fits v.room old (is_boxed c.give_back-freed.result.1) (vec_len c.remove-upload.new.self) (room-part v c.args.tenant old c.self.invariant part) kind (omega (arith, c.remove-upload.ensures.len))

-- the part without the upload
after : goal.After-self-1 → KeptTenant
after c = record (c.index_mut-stored_tenant.result.now) {
  charge = c.index_mut-stored_tenant.result.now.charge - c.give_back-freed.result.0;
  uploads = c.remove-upload.new.self;
  spare = c.give_back.new.spare;
}

left : goal.After-self-1 → StoredTenant
left c = without (stored_tenant_of c.index_mut-stored_tenant.result.now) c.args.place

part : (c : goal.After-self-1) → IsPart c.self.inside c.args.tenant c.index_mut-stored_tenant.result.now
part c = IsPart-read c.self.inside c.args.self.now c.args.tenant c.index_mut-stored_tenant.result.now c.self.view_is c.requires.tenant c.index_mut-stored_tenant.ensures.value

entry : (c : goal.After-self-1) → IsEntry (stored_tenant_of c.index_mut-stored_tenant.result.now) c.args.place c.remove-upload.result
entry c = IsEntry-read c.self.inside c.args.self.now c.args.tenant c.args.place c.index_mut-stored_tenant.result.now c.remove-upload.result c.self.view_is (part c) c.requires.place c.remove-upload.ensures.value

-- the upload's blocks are given back
gave : (c : goal.After-self-1) → GivesUp c.self.inside c.args.tenant c.index_mut-stored_tenant.result.now (left c) c.remove-upload.result.kept.pieces c.give_back-freed.result.0 c.give_back-freed.new.pool
unfolding left
gave c = GivesUp-upload c.self.inside c.args.tenant c.args.place c.index_mut-stored_tenant.result.now c.remove-upload.result c.give_back-freed.result.0 c.give_back-freed.new.pool (part c) (entry c) c.give_back-freed.ensures.blocks

-- the part lost it
given : (c : goal.After-self-1) → IsGivenUp c.self.inside c.index_mut-stored_tenant.result.now (after c) (left c) c.give_back-freed.result.0
unfolding after left
given c =
    let old = c.index_mut-stored_tenant.result.now in
    let with_uploads : List (Entry StoredUpload) → StoredTenant = λ uploads. record (stored_tenant_of old) { uploads = uploads } in
    let room = room-part c.self.inside c.args.tenant old c.self.invariant (part c) in
    IsGivenUp-upload c.self.inside c.args.tenant c.args.place old (after c) c.remove-upload.result c.give_back-freed.result.0 c.self.invariant (part c) (entry c) (ap with_uploads c.remove-upload.ensures.items)
    (omega (arith, given-within c.self.inside c.args.tenant old (left c) c.remove-upload.result.kept.pieces c.give_back-freed.result.0 c.give_back-freed.new.pool c.self.invariant (gave c)))
    (room-fewer c.self.inside.room c.args.place old (after c) (is_boxed c.give_back-freed.result.1) room (kind-read c.self.inside c.args.self.now c.args.tenant c.args.place old c.remove-upload.result _ c.self.invariant c.self.view_is c.requires.tenant c.index_mut-stored_tenant.ensures.value c.requires.place c.remove-upload.ensures.value c.give_back-freed.ensures.kind) c.remove-upload.ensures.items (omega (arith, c.remove-upload.ensures.len)) c.remove-upload.ensures.capacity c.give_back.ensures.spare c.give_back.ensures.capacity)

pub invariant_of-self : goal.invariant_of-self
unfolding after
invariant_of-self c =
    IsKept-given c.self.inside c.args.tenant c.index_mut-stored_tenant.result.now (left c) c.remove-upload.result.kept.pieces c.give_back-freed.result.0 c.give_back-freed.new.pool c.self.invariant (gave c) (after c) (given c)

pub returns-clause-plain : goal.returns-clause-plain
unfolding after left
returns-clause-plain c =
    let is = plain-given c.self.inside c.args.tenant c.index_mut-stored_tenant.result.now (left c) c.remove-upload.result.kept.pieces c.give_back-freed.result.0 c.give_back-freed.new.pool c.self.invariant (gave c) (after c) (given c) in
    rw (← c.self.view_is) (is ∙ ap (set (plain_in (store_of c.self.inside)) c.args.tenant) (plain-upload c.self.inside c.args.tenant c.args.place c.index_mut-stored_tenant.result.now (part c)))

pub returns-clause-charge : goal.returns-clause-charge
unfolding after
returns-clause-charge c =
    rw (← c.self.view_is) (charge-given c.self.inside c.args.tenant c.index_mut-stored_tenant.result.now (left c) c.remove-upload.result.kept.pieces c.give_back-freed.result.0 c.give_back-freed.new.pool c.self.invariant (gave c) (after c) (given c))
