-- The store where an upload is created with its first bytes: as one without bytes is pushed, and then these are put.
use Rattle.std.proofs.Common.{◌≡◌, ◌≢◌, ℕ, ◌+◌, ◌<◌, Bool, true, false, List, [], ◌∷◌, ◌++◌, map, length, get_or, set, Option, refl, sym, ap, ap₂, ◌∙◌, subst, arith}
use Rattle.std.specs.List.{All, Contains, remove}
use Rattle.std.specs.Vec.{with_item}
use Rattle.std.proofs.Math.ListN.{length-map, length-append, get_or-map}
use Rattle.std.proofs.lemmas.List.{set-set, get_or-set_same}
use lib.Seq.{set-append_seam}
use Rattle.block_pool.specs.Blocks.{Blocks}
use Rattle.block_bodies.specs.Bodies.{Chain, StandsOnce, blocks_for}
use Rattle.block_bodies.specs.Changes.{Puts}
use Rattle.upload_book.specs.Account.{blocks_between}
use Rattle.upload_book.specs.Charge.{charge_with}
use Rattle.upload_book.specs.Create.{new_kind, upload_from}
use Rattle.upload_book.specs.declared.head_row.Kind.TheVariants.{Final}
use Rattle.upload_book.specs.declared.stored_tenant.StoredTenant.{StoredTenant as KeptTenant}
use Rattle.upload_book.specs.declared.block_store.BlockStore.TheInside.{Inside}
use Rattle.upload_book.specs.inside.Kept.{stored_tenant_of, store_of, HasUploadRoom, IsKept}
use Rattle.upload_book.specs.NewUpload.{NewUpload}
use Rattle.upload_book.specs.BlockStore.{plain_in, part_at}
use Rattle.upload_book.specs.inside.Places.{with_bytes, with_upload}
use Rattle.upload_book.specs.Stored.{StoredTenant, StoredUpload, entry_of, part_of, parts_of, pieces_of, upload_of}
use Rattle.upload_book.specs.inside.Pieces.{new_stored, no_chain}
use Rattle.upload_book.specs.TenantBook.{Entry, TenantBook, opening_part, with_new}
use Rattle.upload_book.specs.Upload.{Upload}
use Rattle.upload_book.proofs.Store.OwnLemmas.{HasOwnPiece-from}
use Rattle.upload_book.proofs.Store.Pieces.{IsEntry, without}
use Rattle.upload_book.proofs.Charge.PriceLemmas.{blocks_between-adds, blocks_for-zero}
use Rattle.upload_book.proofs.Store.PutLemmas.{IsAlone}
use Rattle.upload_book.proofs.Store.StoredTenants.{IsStoredOn-stored_tenant}
use Rattle.upload_book.proofs.Store.StoreAppend.{PutsIn, IsPutIn, IsKept-put, plain-put, charge-put}
use Rattle.upload_book.proofs.Store.StoreLemmas.{with_stored_tenant, IsPart, IsKind, IsStoredTenant-part, room-changed, stored_tenant_at-part, with_stored_tenant-part}
use Rattle.upload_book.proofs.Store.StoreSteps.{IsPushed, IsKept-pushed, plain-pushed, charge-pushed}

-- a list without the element at its end
remove-last : {X : Type 0} (xs : List X) (x : X) → remove (xs ++ x ∷ []) (length xs) ≡ xs
remove-last [] x = refl
remove-last {X} (y ∷ xs) x = ap (λ (rest : List X). y ∷ rest) (remove-last xs x)

-- and the element
get_or-last : {X : Type 0} (xs : List X) (x d : X) → get_or (xs ++ x ∷ []) (length xs) d ≡ x
get_or-last [] x d = refl
get_or-last (y ∷ xs) x d = get_or-last xs x d

-- a new upload is not final
not_final : (partial : Bool) → new_kind partial ≢ Final
not_final true = λ e. absurd cc
not_final false = λ e. absurd cc

-- and has no parts
no_parts : (partial : Bool) (origins : List ℕ) → parts_of (new_kind partial) origins ≡ []
no_parts true origins = refl
no_parts false origins = refl

-- with bytes at its end it is the one that is created with them
created-with_bytes : (p : Blocks) (new : NewUpload) (id : ℕ) (bytes : List ℕ) (expires : Option ℕ) (boxed : Bool) → with_bytes (upload_of p (new_stored new id no_chain expires boxed)) bytes new.length expires ≡ upload_from new bytes expires
created-with_bytes p new id bytes expires boxed = ap (λ (parts : List ℕ). record (upload_from new bytes expires) { parts = parts }) (no_parts new.partial (id ∷ []))

-- a part with another upload at its end
with_new-changed : (part : TenantBook) (i : ℕ) (before after : Upload) → i ≡ length part.uploads → with_upload (with_new part before) i (record { id = part.next; kept = after }) ≡ with_new part after
with_new-changed part i before after at =
    let e : Upload → Entry Upload = λ u. record { id = part.next; kept = u } in
    ap (λ (uploads : List (Entry Upload)). record part { next = part.next + 1; uploads = uploads })
    (ap (λ i. set (part.uploads ++ e before ∷ []) i (e after)) at ∙ set-append_seam part.uploads (e before) [] (e after))

-- as many blocks are taken as the bytes take
pub made-taken : (v : Inside) (bytes : List ℕ) (q : Blocks) (y : Chain) (taken : ℕ) → Puts v.pool no_chain bytes q y → length y.blocks ≡ taken → taken ≡ blocks_between v.pool.block_size 0 (length bytes)
made-taken v bytes q y taken f is =
    let blocks : length y.blocks ≡ blocks_for v.pool.block_size (0 + length bytes) = f.body.blocks ∙ ap₂ blocks_for f.sizes.bytes f.len in
    omega (arith, blocks, is, blocks_between-adds v.pool.block_size 0 (length bytes), blocks_for-zero v.pool.block_size)

-- a part with one more upload, to which these bytes were sent, and which has the next id
pub record IsMade (v : Inside) (t : ℕ) (old changed : KeptTenant) (new : NewUpload) (bytes : List ℕ) (q : Blocks) (y : Chain) (expires : Option ℕ) (taken : ℕ) : Type 0 where
  pub part : IsPart v t old
  pub puts : Puts v.pool no_chain bytes q y
  pub once : StandsOnce y.blocks
  pub taken_is : length y.blocks ≡ taken
  pub quota : changed.quota ≡ old.quota
  pub next : changed.next ≡ old.next + 1
  pub charge : changed.charge ≡ old.charge + taken
  pub boxed : Bool
  pub uploads : changed.uploads.items ≡ old.uploads.items ++ record { id = old.next; kept = new_stored new old.next y expires boxed } ∷ []
  pub room : HasUploadRoom v.room changed

module _ (v : Inside) (t : ℕ) (old changed : KeptTenant) (new : NewUpload) (bytes : List ℕ) (q : Blocks) (y : Chain) (expires : Option ℕ) (taken : ℕ) (kept : IsKept v) (is : IsMade v t old changed new bytes q y expires taken) where
  abbrev place : ℕ
  place = length old.uploads.items

  -- the upload before its bytes came
  abbrev bare : Entry StoredUpload
  bare = record { id = old.next; kept = new_stored new old.next no_chain expires is.boxed }

  abbrev after : Entry StoredUpload
  after = record { id = old.next; kept = new_stored new old.next y expires is.boxed }

  -- the part with it, and the store
  abbrev pushed : KeptTenant
  pushed = record changed { charge = old.charge; uploads = with_item changed.uploads place bare }

  abbrev middle : Inside
  middle = with_stored_tenant v v.pool t pushed

  pushed-uploads : pushed.uploads.items ≡ old.uploads.items ++ bare ∷ []
  pushed-uploads = ap (λ (items : List (Entry StoredUpload)). set items place bare) is.uploads ∙ set-append_seam old.uploads.items after [] bare

  kind : IsKind v.room bare
  kind = ap (λ (e : Entry StoredUpload). e.kept.boxed) (sym (get_or-last old.uploads.items after after))
      ∙ subst (All (IsKind v.room)) is.uploads is.room.boxed place after (omega (arith, length-append old.uploads.items (after ∷ [])))

  is_pushed : IsPushed v t old pushed bare
  is_pushed = record {
    part = is.part;
    id = refl;
    new = record { own = not_final new.partial; empty = refl; none = refl; piece = HasOwnPiece-from bare no_chain refl };
    quota = is.quota;
    next = is.next;
    charge = refl;
    uploads = pushed-uploads;
    room = room-changed v.room changed place old.charge bare kind is.room;
  }

  middle-part : IsPart middle t pushed
  middle-part = with_stored_tenant-part v v.pool t old pushed is.part

  middle-entry : IsEntry (stored_tenant_of pushed) place bare
  middle-entry = record {
    within = omega (arith, ap (length {A = Entry StoredUpload}) pushed-uploads, length-append old.uploads.items (bare ∷ []));
    read = sym (ap (λ (items : List (Entry StoredUpload)). get_or items place bare) pushed-uploads ∙ get_or-last old.uploads.items bare bare);
  }

  -- nobody else has its origin
  middle-alone : IsAlone (stored_tenant_of pushed) place bare.id
  middle-alone =
      let rest : pieces_of (without (stored_tenant_of pushed) place) ≡ pieces_of (stored_tenant_of old) =
      ap (λ (items : List (Entry StoredUpload)). pieces_of (record (stored_tenant_of old) { uploads = items })) (ap (λ (items : List (Entry StoredUpload)). remove items place) pushed-uploads ∙ remove-last old.uploads.items bare) in
      let on = IsStoredOn-stored_tenant v.pool (store_of v).stored_tenants t (stored_tenant_of old) kept.stored (IsStoredTenant-part v t old is.part) in
      record {
        others = λ z c same.
            let given = (on.pieces.each z (subst (λ pieces. Contains pieces z) rest c)).given in
            omega (arith, given, same);
      }

  puts_in : PutsIn middle t place pushed bare bytes q y
  puts_in = record {
    part = middle-part;
    entry = middle-entry;
    own = not_final new.partial;
    alone = middle-alone;
    puts = is.puts;
    once = is.once;
  }

  is_put : IsPutIn middle place pushed changed bare y new.length expires taken
  is_put = record {
    quota = refl;
    next = refl;
    charge = is.charge;
    uploads = is.uploads ∙ sym (ap (λ (items : List (Entry StoredUpload)). set items place after) pushed-uploads ∙ set-append_seam old.uploads.items bare [] after);
    room = is.room;
    more = omega (arith, is.taken_is);
  }

  middle-kept : IsKept middle
  middle-kept = IsKept-pushed v t old pushed bare kept is_pushed

  -- the parts after both are those after the last
  both : set (set v.stored_tenants.items t pushed) t changed ≡ set v.stored_tenants.items t changed
  both = set-set v.stored_tenants.items t pushed changed

  -- what holds of the store after both holds of it after the last
  same-kept : (w u : Inside) → w.pool ≡ u.pool → w.stored_tenants.items ≡ u.stored_tenants.items → w.room ≡ u.room → IsKept u → IsKept w
  same-kept w u pool items room is = record {
    stored = rw (pool, items) is.stored;
    own = rw items is.own;
    reads = rw (pool, items) is.reads;
    order = rw items is.order;
    size = rw pool is.size;
    blocks = rw pool is.blocks;
    charges = rw (pool, items) is.charges;
    room = rw (items, room) is.room;
  }

  -- the store is kept
  pub IsKept-made : IsKept (with_stored_tenant v q t changed)
  IsKept-made =
      same-kept (with_stored_tenant v q t changed) (with_stored_tenant middle q t changed) refl (sym both) refl
      (IsKept-put middle t place pushed changed bare bytes q y new.length expires taken middle-kept puts_in is_put)

  plain-same : plain_in (store_of (with_stored_tenant v q t changed)) ≡ plain_in (store_of (with_stored_tenant middle q t changed))
  plain-same = ap (λ (items : List KeptTenant). map {A = StoredTenant} {B = TenantBook} (part_of q) (map {A = KeptTenant} {B = StoredTenant} stored_tenant_of items)) (sym both)

  -- the tenant's part of the plain book
  abbrev part : TenantBook
  part = part_at (store_of v) t

  -- with the upload before its bytes came
  abbrev bare_part : TenantBook
  bare_part = with_new part (upload_of v.pool bare.kept)

  middle-plain : plain_in (store_of middle) ≡ set (plain_in (store_of v)) t bare_part
  middle-plain = plain-pushed v t old pushed bare kept is_pushed

  within : t < length (plain_in (store_of v))
  within = omega (arith, is.part.within, length-map v.stored_tenants.items stored_tenant_of, length-map (store_of v).stored_tenants (part_of v.pool))

  middle-part_at : part_at (store_of middle) t ≡ bare_part
  middle-part_at =
      sym (get_or-map (part_of v.pool) (store_of middle).stored_tenants t (opening_part 0)) ∙ ap (λ tenants. get_or tenants t (opening_part 0)) middle-plain
      ∙ get_or-set_same (plain_in (store_of v)) t bare_part (opening_part 0) within

  -- it is at the end
  at_end : place ≡ length part.uploads
  at_end =
      sym (length-map old.uploads.items (entry_of v.pool)) ∙ ap (λ (s : StoredTenant). length (part_of v.pool s).uploads) (sym (stored_tenant_at-part v t old is.part))

  -- under the next id
  next_id : old.next ≡ part.next
  next_id = ap (λ (s : StoredTenant). (part_of v.pool s).next) (sym (stored_tenant_at-part v t old is.part))

  -- the plain book gets the upload with its bytes
  pub plain-made : plain_in (store_of (with_stored_tenant v q t changed)) ≡ set (plain_in (store_of v)) t (with_new part (upload_from new bytes expires))
  plain-made =
      let put : TenantBook → ℕ → Upload → TenantBook = λ part id u. with_upload part place (record { id = id; kept = u }) in
      plain-same ∙ plain-put middle t place pushed changed bare bytes q y new.length expires taken middle-kept puts_in is_put
      ∙ ap (λ tenants. set tenants t (put (part_at (store_of middle) t) old.next (with_bytes (upload_of v.pool bare.kept) bytes new.length expires))) middle-plain
      ∙ set-set (plain_in (store_of v)) t bare_part (put (part_at (store_of middle) t) old.next (with_bytes (upload_of v.pool bare.kept) bytes new.length expires))
      ∙ ap (set (plain_in (store_of v)) t)
      (ap (λ part. put part old.next (with_bytes (upload_of v.pool bare.kept) bytes new.length expires)) middle-part_at
      ∙ ap (λ id. put bare_part id (with_bytes (upload_of v.pool bare.kept) bytes new.length expires)) next_id
      ∙ with_new-changed part place (upload_of v.pool bare.kept) (with_bytes (upload_of v.pool bare.kept) bytes new.length expires) at_end
      ∙ ap (with_new part) (created-with_bytes v.pool new old.next bytes expires is.boxed))

  -- the tenant pays for the blocks that were taken
  pub charge-made : charge_with v.pool.block_size (part_at (store_of (with_stored_tenant v q t changed)) t) ≡ charge_with v.pool.block_size part + taken
  charge-made =
      let same : part_at (store_of (with_stored_tenant v q t changed)) t ≡ part_at (store_of (with_stored_tenant middle q t changed)) t =
      ap (λ (items : List KeptTenant). part_of q (get_or (map {A = KeptTenant} {B = StoredTenant} stored_tenant_of items) t (opening_part 0))) (sym both) in
      ap (charge_with v.pool.block_size) same
      ∙ charge-put middle t place pushed changed bare bytes q y new.length expires taken middle-kept puts_in is_put
      ∙ ap (λ n. n + taken) (charge-pushed v t old pushed bare kept is_pushed)
