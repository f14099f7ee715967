-- A store in which one tenant's part changed, as it is kept.
use Rattle.std.proofs.Common.{◌≡◌, ◌≢◌, ℕ, ◌+◌, ◌<◌, ◌≤◌, Bool, true, not, List, [], ◌∷◌, ◌++◌, map, length, get_or, set, vec_capacity, vec_len, Option, None, Some, is_some, Result, Ok, Err, OnErr, refl, sym, ap, ◌∙◌, ap₂, subst, inl, inr, arith}
use Rattle.std.specs.List.{All, remove, sum_by}
use Rattle.std.specs.Vec.{with_item}
use Rattle.std.proofs.Math.ListN.{length-map, length-set}
use Rattle.std.proofs.lemmas.Bool.Decides.{eqb_tells, nat_tests}
use Rattle.std.proofs.lemmas.List.{map-set, set-get_or, get_or-map, get_or-set_same, get_or-set_other, get_or_default}
use Rattle.std.proofs.lemmas.List.Elements.{All-get_or, All-set, All-head, All-push, All-tail}
use Rattle.std.proofs.lemmas.List.Sums.{sum_by-cons}
use Rattle.block_pool.specs.Blocks.{Blocks}
use Rattle.block_bodies.specs.Changes.{SameSizes}
use Rattle.upload_book.specs.Charge.{charge_with}
use Rattle.upload_book.specs.declared.head_row.Kind.TheVariants.{Final}
use Rattle.upload_book.specs.declared.stored_tenant.StoredTenant.{StoredTenant as KeptTenant}
use Rattle.upload_book.specs.declared.block_store.BlockStore.TheInside.{Inside}
use Rattle.upload_book.specs.inside.Kept.{stored_tenant_of, store_of, AreInOrder, HasUploadRoom, IsKept}
use Rattle.upload_book.specs.BlockStore.{BlockStore, plain_in, part_at, stored_tenant_at, entry_at, upload_at, no_upload}
use Rattle.upload_book.specs.Stored.{StoredTenant, StoredUpload, part_of, upload_of, pieces_of, places_on, charge_on, HoldsPieces}
use Rattle.upload_book.specs.inside.Ids.{AreBelow}
use Rattle.upload_book.specs.inside.Pieces.{AreBodies, HasOwnPiece, ReadsWhole}
use Rattle.upload_book.specs.inside.Texts.{boxes_in, is_reserved, IsTextsFor}
use Rattle.upload_book.specs.declared.texts.SharedTexts.{SharedTexts}
use Rattle.upload_book.specs.TenantBook.{TenantBook, Entry, opening_part}
use Rattle.upload_book.specs.Upload.{Upload}
use Rattle.upload_book.proofs.Charge.PlainCharge.{charge-plain}
use Rattle.upload_book.proofs.Store.PlainStoredTenants.{KeepBytes, content-same, parts-changed}
use Rattle.upload_book.proofs.Charge.InUse.{places-within}
use Rattle.upload_book.proofs.Store.Pieces.{IsEntry, All-remove, Contains-entry}
use Rattle.upload_book.proofs.Store.GoneLemmas.{piece-body}
use Rattle.upload_book.proofs.Store.StoredTenants.{IsStoredTenant, IsStoredOn-stored_tenant}

-- the fields with another pool and one part changed
abbrev pub with_stored_tenant : Inside → Blocks → ℕ → KeptTenant → Inside
with_stored_tenant v q t changed = record v { pool = q; stored_tenants = with_item v.stored_tenants t changed }

-- a tenant's part is read where there is one
pub record IsPart (v : Inside) (t : ℕ) (old : KeptTenant) : Type 0 where
  pub within : t < length v.stored_tenants.items
  pub read : old ≡ get_or v.stored_tenants.items t old

-- and so its stored part
pub IsStoredTenant-part : (v : Inside) (t : ℕ) (old : KeptTenant) → IsPart v t old → IsStoredTenant (store_of v).stored_tenants t (stored_tenant_of old)
IsStoredTenant-part v t old is = record {
  within = omega (arith, is.within, length-map v.stored_tenants.items stored_tenant_of);
  read = ap stored_tenant_of is.read ∙ sym (get_or-map stored_tenant_of v.stored_tenants.items t old (stored_tenant_of old) is.within);
}

-- a tenant of the store has a part
pub part_within : (v : Inside) (s : BlockStore) (t : ℕ) → store_of v ≡ s → t < length s.stored_tenants → t < length v.stored_tenants.items
part_within v s t is within =
    let stored_tenants : length (store_of v).stored_tenants ≡ length s.stored_tenants = ap (λ (s : BlockStore). length s.stored_tenants) is in
    omega (arith, within, stored_tenants, length-map v.stored_tenants.items stored_tenant_of)

-- it is what is read
pub stored_tenant_at-part : (v : Inside) (t : ℕ) (old : KeptTenant) → IsPart v t old → stored_tenant_at (store_of v) t ≡ stored_tenant_of old
stored_tenant_at-part v t old is =
    get_or-map stored_tenant_of v.stored_tenants.items t old (opening_part 0) is.within ∙ ap stored_tenant_of (sym is.read)

-- its uploads that are not final have their own pieces,
pub own-part : (v : Inside) (t : ℕ) (old : KeptTenant) → IsKept v → IsPart v t old → All HasOwnPiece (stored_tenant_of old).uploads
own-part v t old kept is =
    let stored_tenant = IsStoredTenant-part v t old is in
    subst (λ (s : StoredTenant). All HasOwnPiece s.uploads) (sym stored_tenant.read) (kept.own t (stored_tenant_of old) stored_tenant.within)

-- it is in order,
pub order-part : (v : Inside) (t : ℕ) (old : KeptTenant) → IsKept v → IsPart v t old → AreInOrder (stored_tenant_of old)
order-part v t old kept is =
    let stored_tenant = IsStoredTenant-part v t old is in
    subst AreInOrder (sym stored_tenant.read) (kept.order t (stored_tenant_of old) stored_tenant.within)

-- so its ids ascend, as a call reads it,
pub ids-read : (v : Inside) (t : ℕ) (old : KeptTenant) → IsKept v → t < length v.stored_tenants.items → old ≡ get_or v.stored_tenants.items t old → AreBelow old.next old.uploads.items
ids-read v t old kept within read = (order-part v t old kept (record { within = within; read = read })).ids

-- its pieces read whole,
pub reads-part : (v : Inside) (t : ℕ) (old : KeptTenant) → IsKept v → IsPart v t old → ReadsWhole v.pool (pieces_of (stored_tenant_of old))
reads-part v t old kept is =
    let stored_tenant = IsStoredTenant-part v t old is in
    subst (λ (s : StoredTenant). ReadsWhole v.pool (pieces_of s)) (sym stored_tenant.read) (kept.reads t (stored_tenant_of old) stored_tenant.within)

-- it knows what its tenant pays,
pub charge-part : (v : Inside) (t : ℕ) (old : KeptTenant) → IsKept v → IsPart v t old → old.charge ≡ charge_on v.pool.block_size (stored_tenant_of old)
charge-part v t old kept is =
    subst (λ (s : KeptTenant). s.charge ≡ charge_on v.pool.block_size (stored_tenant_of s)) (sym is.read) (kept.charges t old is.within)

-- by the plain book too,
pub charge_with-part : (v : Inside) (t : ℕ) (old : KeptTenant) → IsKept v → IsPart v t old → charge_with v.pool.block_size (part_at (store_of v) t) ≡ charge_on v.pool.block_size (stored_tenant_of old)
charge_with-part v t old kept is =
    ap (λ (s : StoredTenant). charge_with v.pool.block_size (part_of v.pool s)) (stored_tenant_at-part v t old is)
    ∙ charge-plain v.pool.block_size v.pool (stored_tenant_of old) (own-part v t old kept is) (reads-part v t old kept is)

-- and has room
pub room-part : (v : Inside) (t : ℕ) (old : KeptTenant) → IsKept v → IsPart v t old → HasUploadRoom v.room old
room-part v t old kept is = subst (HasUploadRoom v.room) (sym is.read) (kept.room t old is.within)

-- the texts of an upload lie in a box, where there are boxes
abbrev pub IsKind : ℕ → Entry StoredUpload → Type 0
IsKind room e = e.kept.boxed ≡ is_reserved room

-- each of the part is so
pub kind-part : (v : Inside) (t i : ℕ) (old : KeptTenant) (e : Entry StoredUpload) → IsKept v → IsPart v t old → IsEntry (stored_tenant_of old) i e → IsKind v.room e
kind-part v t i old e kept part entry =
    subst (IsKind v.room) (sym entry.read) (All-get_or (IsKind v.room) old.uploads.items i e entry.within (room-part v t old kept part).boxed)

-- It has as much room where an upload changes, or what the tenant pays,
pub room-changed : (room : ℕ) (old : KeptTenant) (i charge : ℕ) (e : Entry StoredUpload) → IsKind room e → HasUploadRoom room old → HasUploadRoom room (record old { charge = charge; uploads = with_item old.uploads i e })
room-changed room old i charge e kind has = record {
  uploads = has.uploads;
  boxed = All-set (IsKind room) old.uploads.items i e kind has.boxed;
  spare = has.spare;
  boxes = has.boxes;
}

-- its texts lying where they lay.
pub room-kept : (v : Inside) (t i charge : ℕ) (old : KeptTenant) (before e : Entry StoredUpload) → IsKept v → IsPart v t old → IsEntry (stored_tenant_of old) i before → e.kept.boxed ≡ before.kept.boxed
    → HasUploadRoom v.room (record old { charge = charge; uploads = with_item old.uploads i e })
room-kept v t i charge old before e kept part entry same =
    room-changed v.room old i charge e (same ∙ kind-part v t i old before kept part entry) (room-part v t old kept part)

-- memory is taken for texts where there are no boxes
taken-kind : (room : ℕ) (taken : Option SharedTexts) (metadata concat : List ℕ) → IsTextsFor room taken metadata concat → not (is_some taken) ≡ is_reserved room
taken-kind room None metadata concat few = grind (arith, nat_tests)
taken-kind room (Some t) metadata concat is = (let many = is.0 in grind (arith, nat_tests))

no_box : (room : ℕ) (boxed : Bool) → boxed ≡ is_reserved room → room ≤ 64 → boxes_in boxed ≡ 1
no_box room boxed kind few = let held : boxed ≡ true = kind ∙ reserved few in ap boxes_in held
  where
    reserved : room ≤ 64 → is_reserved room ≡ true
    reserved few = grind (arith, nat_tests)

-- A new upload is added, whose texts are put into a spare box, or into memory that was taken for them.
pub room-more : (room : ℕ) (old changed : KeptTenant) (e : Entry StoredUpload) (taken : Option SharedTexts) (metadata concat : List ℕ) (boxed : Bool) → HasUploadRoom room old → IsTextsFor room taken metadata concat → boxed ≡ not (is_some taken) → e.kept.boxed ≡ boxed
    → changed.uploads.items ≡ old.uploads.items ++ e ∷ [] → vec_len changed.uploads ≡ vec_len old.uploads + 1 → vec_capacity changed.uploads ≡ vec_capacity old.uploads
    → vec_len changed.spare + boxes_in boxed ≡ vec_len old.spare → vec_capacity changed.spare ≡ vec_capacity old.spare → HasUploadRoom room changed
room-more room old changed e taken metadata concat boxed has texts kind same items len capacity spare spare_capacity =
    let is : boxed ≡ is_reserved room = kind ∙ taken-kind room taken metadata concat texts in
    record {
      uploads = omega (arith, has.uploads, capacity);
      boxed = subst (All (IsKind room)) (sym items) (All-push (IsKind room) old.uploads.items e has.boxed (same ∙ is));
      spare = λ few. omega (arith, has.spare few, spare_capacity);
      boxes = λ few. omega (arith, has.boxes few, len, spare, no_box room boxed is few);
    }

-- One ends, and its box, if it has one, is spare again.
pub room-fewer : (room i : ℕ) (old changed : KeptTenant) (boxed : Bool) → HasUploadRoom room old → boxed ≡ is_reserved room → changed.uploads.items ≡ remove old.uploads.items i → vec_len changed.uploads + 1 ≡ vec_len old.uploads → vec_capacity changed.uploads ≡ vec_capacity old.uploads
    → vec_len changed.spare ≡ vec_len old.spare + boxes_in boxed → vec_capacity changed.spare ≡ vec_capacity old.spare → HasUploadRoom room changed
room-fewer room i old changed boxed has is items len capacity spare spare_capacity = record {
  uploads = omega (arith, has.uploads, capacity);
  boxed = subst (All (IsKind room)) (sym items) (All-remove (IsKind room) old.uploads.items i has.boxed);
  spare = λ few. omega (arith, has.spare few, spare_capacity);
  boxes = λ few. omega (arith, has.boxes few, len, spare, no_box room boxed is few);
}

-- There is room for it among the spare ones.
pub box-fits : (room : ℕ) (old : KeptTenant) (boxed : Bool) (left : ℕ) → HasUploadRoom room old → boxed ≡ is_reserved room → left + 1 ≡ vec_len old.uploads → boxed ≡ true → vec_len old.spare < vec_capacity old.spare
box-fits room old boxed left has is some held =
    let few : room ≤ 64 = reserved (sym held ∙ is) in
    omega (arith, has.spare few, has.boxes few, some)
  where
    reserved : true ≡ is_reserved room → room ≤ 64
    reserved is = grind (arith, nat_tests)

-- Where it may have one more upload, and no memory was taken for its texts, a box is spare.
pub spare-some : (v : Inside) (s : BlockStore) (t : ℕ) (old : KeptTenant) (taken : Option SharedTexts) (metadata concat : List ℕ) → IsKept v → store_of v ≡ s → IsPart v t old → length (stored_tenant_at s t).uploads < s.room → IsTextsFor s.room taken metadata concat → taken ≡ None
    → 0 < vec_len old.spare
spare-some v s t old taken metadata concat kept is part less texts none =
    let room = room-part v t old kept part in
    let few : s.room ≤ 64 = subst (λ (taken : Option SharedTexts). IsTextsFor s.room taken metadata concat) none texts in
    let same_room : v.room ≡ s.room = ap (λ (s : BlockStore). s.room) is in
    let same : length (stored_tenant_at s t).uploads ≡ length old.uploads.items = ap (λ (s : BlockStore). length (stored_tenant_at s t).uploads) (sym is) ∙ ap (λ (stored_tenant : StoredTenant). length stored_tenant.uploads) (stored_tenant_at-part v t old part) in
    omega (arith, less, same, room.boxes (omega (arith, few, same_room)), old.uploads.ok.0, same_room)

-- the tenants' parts with one changed
pub stored_tenants-with_stored_tenant : (v : Inside) (q : Blocks) (t : ℕ) (changed : KeptTenant) → (store_of (with_stored_tenant v q t changed)).stored_tenants ≡ set (store_of v).stored_tenants t (stored_tenant_of changed)
stored_tenants-with_stored_tenant v q t changed = map-set stored_tenant_of v.stored_tenants.items t changed

-- what holds of each stored part where one is changed
All-stored_tenants : (P : StoredTenant → Type 0) (stored_tenants : List StoredTenant) (t : ℕ) (s : StoredTenant) → P s → ((k : ℕ) (other : StoredTenant) → IsStoredTenant stored_tenants k other → k ≢ t → P other) → All P (set stored_tenants t s)
All-stored_tenants P stored_tenants t s here others k d within =
    let inside : k < length stored_tenants = omega (arith, within, length-set stored_tenants t s) in
    elim (eqb_tells k t) [
      | inl same ↦ subst P (sym (ap (λ k. get_or (set stored_tenants t s) k d) same.1 ∙ get_or-set_same stored_tenants t s d (subst (λ k. k < length stored_tenants) same.1 inside))) here
      | inr differs ↦
          let other = get_or stored_tenants k d in
          subst P (sym (get_or-set_other stored_tenants t k s d differs.1)) (others k other (record { within = inside; read = get_or_default stored_tenants k d other inside }) differs.1)
    ]

-- The store is kept where one part changes over another pool of the sizes, in which the blocks of the others keep
-- their bytes.
pub IsKept-with_stored_tenant : (v : Inside) (q : Blocks) (t : ℕ) (old changed : KeptTenant) → IsKept v → IsPart v t old → SameSizes v.pool q
    → HoldsPieces q (set (store_of v).stored_tenants t (stored_tenant_of changed))
    → ((k : ℕ) (other : StoredTenant) → IsStoredTenant (store_of v).stored_tenants k other → k ≢ t → KeepBytes v.pool q (λ b. places_on b other))
    → All HasOwnPiece (stored_tenant_of changed).uploads → ReadsWhole q (pieces_of (stored_tenant_of changed)) → AreInOrder (stored_tenant_of changed) → changed.charge ≡ charge_on v.pool.block_size (stored_tenant_of changed)
    → HasUploadRoom v.room changed → IsKept (with_stored_tenant v q t changed)
IsKept-with_stored_tenant v q t old changed kept is sizes stored stay own reads order charge room =
    let stored_tenants = stored_tenants-with_stored_tenant v q t changed in
    record {
      stored = rw stored_tenants stored;
      own = rw stored_tenants (All-set (λ (s : StoredTenant). All HasOwnPiece s.uploads) (store_of v).stored_tenants t (stored_tenant_of changed) own kept.own);
      reads = rw stored_tenants (All-stored_tenants (λ s. ReadsWhole q (pieces_of s)) (store_of v).stored_tenants t (stored_tenant_of changed) reads others);
      order = rw stored_tenants (All-set AreInOrder (store_of v).stored_tenants t (stored_tenant_of changed) order kept.order);
      size = rw sizes.bytes kept.size;
      blocks = rw sizes.blocks kept.blocks;
      charges = rw sizes.bytes (All-set (λ (s : KeptTenant). s.charge ≡ charge_on v.pool.block_size (stored_tenant_of s)) v.stored_tenants.items t changed charge kept.charges);
      room = All-set (HasUploadRoom v.room) v.stored_tenants.items t changed room kept.room;
    }
  where
    others : (k : ℕ) (other : StoredTenant) → IsStoredTenant (store_of v).stored_tenants k other → k ≢ t → ReadsWhole q (pieces_of other)
    others k other there differs x c =
        let before : ReadsWhole v.pool (pieces_of other) = subst (λ (s : StoredTenant). ReadsWhole v.pool (pieces_of s)) (sym there.read) (kept.reads k other there.within) in
        let same = content-same v.pool q x.chain (λ b some. stay k other there differs b (omega (arith, some, places-within b (pieces_of other) x c))) in
        ap (length {A = ℕ}) same ∙ before x c

-- what the plain book sees of it
pub plain_in-with_stored_tenant : (v : Inside) (q : Blocks) (t : ℕ) (old changed : KeptTenant) → IsPart v t old
    → ((k : ℕ) (other : StoredTenant) → IsStoredTenant (store_of v).stored_tenants k other → k ≢ t → KeepBytes v.pool q (λ b. places_on b other))
    → plain_in (store_of (with_stored_tenant v q t changed)) ≡ set (plain_in (store_of v)) t (part_of q (stored_tenant_of changed))
plain_in-with_stored_tenant v q t old changed is stay =
    ap (map {A = StoredTenant} {B = TenantBook} (part_of q)) (stored_tenants-with_stored_tenant v q t changed)
    ∙ parts-changed v.pool q (store_of v).stored_tenants t (stored_tenant_of changed) (IsStoredTenant-part v t old is).within stay

-- the changed part is read there
pub with_stored_tenant-part : (v : Inside) (q : Blocks) (t : ℕ) (old changed : KeptTenant) → IsPart v t old → IsPart (with_stored_tenant v q t changed) t changed
with_stored_tenant-part v q t old changed is = record {
  within = omega (arith, is.within, length-set v.stored_tenants.items t changed);
  read = sym (get_or-set_same v.stored_tenants.items t changed changed is.within);
}

-- the part that a call reads
pub IsPart-read : (v : Inside) (s : BlockStore) (t : ℕ) (old : KeptTenant) → store_of v ≡ s → t < length s.stored_tenants → old ≡ get_or v.stored_tenants.items t old → IsPart v t old
IsPart-read v s t old is within read = record { within = part_within v s t is within; read = read }

-- and the upload that it reads in the part
pub IsEntry-read : (v : Inside) (s : BlockStore) (t i : ℕ) (old : KeptTenant) (e : Entry StoredUpload) → store_of v ≡ s → IsPart v t old → i < length (stored_tenant_at s t).uploads → e ≡ get_or old.uploads.items i e
    → IsEntry (stored_tenant_of old) i e
IsEntry-read v s t i old e is part within read =
    let stored_tenant : stored_tenant_at s t ≡ stored_tenant_of old = ap (λ (s : BlockStore). stored_tenant_at s t) (sym is) ∙ stored_tenant_at-part v t old part in
    record { within = subst (λ (s : StoredTenant). i < length s.uploads) stored_tenant within; read = read }

-- what stands there is what was read,
pub entry_at-read : (v : Inside) (s : BlockStore) (t i : ℕ) (old : KeptTenant) (e : Entry StoredUpload) → store_of v ≡ s → IsPart v t old → IsEntry (stored_tenant_of old) i e → entry_at s t i ≡ e
entry_at-read v s t i old e is part entry =
    let stored_tenant : stored_tenant_at s t ≡ stored_tenant_of old = ap (λ (s : BlockStore). stored_tenant_at s t) (sym is) ∙ stored_tenant_at-part v t old part in
    ap (λ (s : StoredTenant). get_or s.uploads i no_upload) stored_tenant ∙ get_or_default (stored_tenant_of old).uploads i no_upload e entry.within ∙ sym entry.read

-- as the plain book has it
pub upload_at-read : (v : Inside) (s : BlockStore) (t i : ℕ) (old : KeptTenant) (e : Entry StoredUpload) → store_of v ≡ s → IsPart v t old → IsEntry (stored_tenant_of old) i e → upload_at s t i ≡ upload_of v.pool e.kept
upload_at-read v s t i old e is part entry =
    let pool : s.pool ≡ v.pool = ap (λ (s : BlockStore). s.pool) (sym is) in
    ap₂ (λ (p : Blocks) (e : Entry StoredUpload). upload_of p e.kept) pool (entry_at-read v s t i old e is part entry)

-- it is not a final one where what stands there is not
pub own-kind : (v : Inside) (s : BlockStore) (t i : ℕ) (old : KeptTenant) (e : Entry StoredUpload) → store_of v ≡ s → IsPart v t old → IsEntry (stored_tenant_of old) i e → (entry_at s t i).kept.kind ≢ Final → e.kept.kind ≢ Final
own-kind v s t i old e is part entry own = subst (λ (e : Entry StoredUpload). e.kept.kind ≢ Final) (entry_at-read v s t i old e is part entry) own

-- the pieces of a part are bodies of the pool,
pub bodies-part : (v : Inside) (t : ℕ) (old : KeptTenant) → IsKept v → IsPart v t old → AreBodies v.pool (pieces_of (stored_tenant_of old))
bodies-part v t old kept part x c =
    piece-body v.pool (stored_tenant_of old) x (IsStoredOn-stored_tenant v.pool (store_of v).stored_tenants t (stored_tenant_of old) kept.stored (IsStoredTenant-part v t old part)) c

-- and so are those of an upload,
pub bodies-entry : (v : Inside) (t i : ℕ) (old : KeptTenant) (e : Entry StoredUpload) → IsKept v → IsPart v t old → IsEntry (stored_tenant_of old) i e → AreBodies v.pool e.kept.pieces
bodies-entry v t i old e kept part entry x c = bodies-part v t old kept part x (Contains-entry (stored_tenant_of old) i e x entry c)

-- which read whole
pub reads-entry : (v : Inside) (t i : ℕ) (old : KeptTenant) (e : Entry StoredUpload) → IsKept v → IsPart v t old → IsEntry (stored_tenant_of old) i e → ReadsWhole v.pool e.kept.pieces
reads-entry v t i old e kept part entry x c = reads-part v t old kept part x (Contains-entry (stored_tenant_of old) i e x entry c)

-- what all tenants pay by the plain book is what they pay by their pieces
pub charges-kept : (v : Inside) → IsKept v → sum_by (charge_with v.pool.block_size) (plain_in (store_of v)) ≡ sum_by (charge_on v.pool.block_size) (store_of v).stored_tenants
charges-kept v kept = sums (store_of v).stored_tenants kept.own kept.reads
  where
    sums : (stored_tenants : List StoredTenant) → All (λ (s : StoredTenant). All HasOwnPiece s.uploads) stored_tenants → All (λ (s : StoredTenant). ReadsWhole v.pool (pieces_of s)) stored_tenants
        → sum_by (charge_with v.pool.block_size) (map {A = StoredTenant} {B = TenantBook} (part_of v.pool) stored_tenants) ≡ sum_by (charge_on v.pool.block_size) stored_tenants
    sums [] own reads = refl
    sums (s ∷ stored_tenants) own reads =
        let here = charge-plain v.pool.block_size v.pool s (All-head (λ (s : StoredTenant). All HasOwnPiece s.uploads) s stored_tenants own) (All-head (λ (s : StoredTenant). ReadsWhole v.pool (pieces_of s)) s stored_tenants reads) in
        let rest = sums stored_tenants (All-tail (λ (s : StoredTenant). All HasOwnPiece s.uploads) s stored_tenants own) (All-tail (λ (s : StoredTenant). ReadsWhole v.pool (pieces_of s)) s stored_tenants reads) in
        sum_by-cons (charge_with v.pool.block_size) (part_of v.pool s) (map {A = StoredTenant} {B = TenantBook} (part_of v.pool) stored_tenants) ∙ ap₂ (λ (a b : ℕ). a + b) here rest ∙ sym (sum_by-cons (charge_on v.pool.block_size) s stored_tenants)

-- what is said of the upload that was read is said of what stands at its place
pub at-place : (v : Inside) (t i : ℕ) (old : KeptTenant) (e : Entry StoredUpload) → IsPart v t old → IsEntry (stored_tenant_of old) i e → {X : Type 0} (f : Entry StoredUpload → Upload → X)
    → f e (upload_of v.pool e.kept) ≡ f (entry_at (store_of v) t i) (upload_at (store_of v) t i)
at-place v t i old e part entry f =
    ap₂ f (sym (entry_at-read v (store_of v) t i old e refl part entry)) (sym (upload_at-read v (store_of v) t i old e refl part entry))

-- a part that stays leaves the store
pub store_of-same : (v : Inside) (t : ℕ) (old changed : KeptTenant) → IsPart v t old → stored_tenant_of changed ≡ stored_tenant_of old → store_of (with_stored_tenant v v.pool t changed) ≡ store_of v
store_of-same v t old changed is same =
    let stored_tenant = IsStoredTenant-part v t old is in
    let stored_tenants : (store_of (with_stored_tenant v v.pool t changed)).stored_tenants ≡ (store_of v).stored_tenants =
    stored_tenants-with_stored_tenant v v.pool t changed ∙ ap (set (store_of v).stored_tenants t) (same ∙ stored_tenant.read) ∙ set-get_or (store_of v).stored_tenants t (stored_tenant_of old) in
    ap (λ (list : List StoredTenant). record (store_of v) { stored_tenants = list }) stored_tenants

-- what holds holds of an error
pub OnErr-of : {T E P : Type 0} (r : Result T E) → P → OnErr r P
OnErr-of (Ok x) p = tt
OnErr-of (Err e) p = p
