-- The store where an upload is told its length and its end, and where bytes are put at the end of one.
use Rattle.std.proofs.Common.{◌≡◌, ◌≢◌, ℕ, ◌+◌, ◌<◌, ◌≤◌, ◌^◌, List, [], ◌∷◌, length, get_or, set, Option, refl, sym, ap, ◌∙◌, subst, inl, inr, arith}
use Rattle.std.specs.List.{All, sum_by}
use Rattle.std.proofs.lemmas.List.Sums.{sum_by-remove}
use Rattle.std.proofs.Math.ListN.{length-append}
use Rattle.std.proofs.lemmas.List.Elements.{All-set}
use Rattle.block_pool.specs.Blocks.{Blocks, free_in, size_of}
use Rattle.block_bodies.specs.Bodies.{blocks_with, Chain, IsBodyOf, IsLastOwn, StandsOnce, content_of}
use Rattle.block_bodies.specs.Changes.{Puts}
use Rattle.upload_book.specs.Account.{blocks_between}
use Rattle.upload_book.specs.Charge.{charge_with}
use Rattle.upload_book.specs.declared.head_row.Kind.TheVariants.{Final}
use Rattle.upload_book.specs.declared.stored_tenant.StoredTenant.{StoredTenant as KeptTenant}
use Rattle.upload_book.specs.declared.block_store.BlockStore.TheInside.{Inside}
use Rattle.upload_book.specs.inside.Kept.{stored_tenant_of, store_of, AreInOrder, HasUploadRoom, IsKept}
use Rattle.upload_book.specs.inside.Places as places
use Rattle.upload_book.specs.BlockStore.{BlockStore, plain_in, part_at, stored_tenant_at}
use Rattle.upload_book.specs.inside.Places.{with_chain, with_head, with_upload, with_bytes}
use Rattle.upload_book.specs.declared.pieces.Piece.{Piece}
use Rattle.upload_book.specs.Stored.{StoredTenant, StoredUpload, part_of, upload_of, pieces_of, charge_on, HoldsPieces}
use Rattle.upload_book.specs.inside.Pieces.{own_chain, ReadsWhole, HasOwnPiece}
use Rattle.upload_book.specs.TenantBook.{Entry}
use Rattle.upload_book.specs.Upload.{offset_of}
use Rattle.upload_book.proofs.Charge.InUse.{blocks_in_use, Contains-cases, Contains-none, places-within}
use Rattle.upload_book.proofs.Store.InOrder.{AreInOrder-set, HasNoLaterPiece-own}
use Rattle.upload_book.proofs.Store.AloneLemmas.{alone-store}
use Rattle.upload_book.proofs.Store.OwnLemmas.{HasOwnPiece-from, own-kept}
use Rattle.upload_book.proofs.Store.Pieces.{IsEntry, with_entry, without, Contains-with_entry, Contains-without}
use Rattle.upload_book.proofs.Store.PlainStoredTenants.{content-own, content-same, put-keeps, put-keeps_elsewhere, part-with_entry}
use Rattle.upload_book.proofs.Store.PlainSteps.{upload-put}
use Rattle.upload_book.proofs.Charge.PriceLemmas.{blocks_between-adds}
use Rattle.upload_book.proofs.Store.PutLemmas.{own_piece, own-contained, IsAlone, own-body, own-last, HoldsPieces-put, put-charge}
use Rattle.upload_book.proofs.Store.StoredTenants.{IsStoredOn-stored_tenant}
use Rattle.upload_book.proofs.Store.StoreLemmas.{charges-kept, with_stored_tenant, with_stored_tenant-part, IsPart, IsStoredTenant-part, stored_tenant_at-part, own-part, order-part, reads-part, charge-part, charge_with-part, IsKept-with_stored_tenant, plain_in-with_stored_tenant}

-- an upload that is not final is read in a part, and bytes are put at its end
pub record PutsIn (v : Inside) (t i : ℕ) (old : KeptTenant) (e : Entry StoredUpload) (bytes : List ℕ) (q : Blocks) (y : Chain) : Type 0 where
  pub part : IsPart v t old
  pub entry : IsEntry (stored_tenant_of old) i e
  pub own : e.kept.kind ≢ Final
  pub alone : IsAlone (stored_tenant_of old) i e.id
  pub puts : Puts v.pool (own_chain e.kept.pieces) bytes q y
  pub once : StandsOnce y.blocks

-- its one piece
pub own-read : (v : Inside) (t i : ℕ) (old : KeptTenant) (e : Entry StoredUpload) → IsKept v → IsPart v t old → IsEntry (stored_tenant_of old) i e → e.kept.kind ≢ Final
    → e.kept.pieces ≡ own_piece e.id (own_chain e.kept.pieces) ∷ []
own-read v t i old e kept part entry own = own-kept (stored_tenant_of old) i e (own-part v t old kept part) entry own

-- reads whole,
pub own-whole : (v : Inside) (t i : ℕ) (old : KeptTenant) (e : Entry StoredUpload) → IsKept v → IsPart v t old → IsEntry (stored_tenant_of old) i e → e.kept.pieces ≡ own_piece e.id (own_chain e.kept.pieces) ∷ []
    → length (content_of v.pool (own_chain e.kept.pieces)) ≡ (own_chain e.kept.pieces).len
own-whole v t i old e kept part entry own =
    reads-part v t old kept part (own_piece e.id (own_chain e.kept.pieces)) (own-contained (stored_tenant_of old) i e (own_chain e.kept.pieces) entry own)

-- is a body,
pub body-read : (v : Inside) (t i : ℕ) (old : KeptTenant) (e : Entry StoredUpload) → IsKept v → IsPart v t old → IsEntry (stored_tenant_of old) i e → e.kept.kind ≢ Final → IsBodyOf v.pool (own_chain e.kept.pieces)
body-read v t i old e kept part entry own =
    own-body v.pool (stored_tenant_of old) i e (own_chain e.kept.pieces) (IsStoredOn-stored_tenant v.pool (store_of v).stored_tenants t (stored_tenant_of old) kept.stored (IsStoredTenant-part v t old part)) entry (own-read v t i old e kept part entry own)

-- whose last block is its own where it is alone
pub last-read : (v : Inside) (t i : ℕ) (old : KeptTenant) (e : Entry StoredUpload) → IsKept v → IsPart v t old → IsEntry (stored_tenant_of old) i e → e.kept.kind ≢ Final → IsAlone (stored_tenant_of old) i e.id
    → IsLastOwn v.pool (own_chain e.kept.pieces)
last-read v t i old e kept part entry own alone =
    own-last v.pool (stored_tenant_of old) i e (own_chain e.kept.pieces) (IsStoredOn-stored_tenant v.pool (store_of v).stored_tenants t (stored_tenant_of old) kept.stored (IsStoredTenant-part v t old part)) entry (own-read v t i old e kept part entry own) alone

-- the part in which the upload has another list of blocks, a length and an end
pub record IsPutIn (v : Inside) (i : ℕ) (old changed : KeptTenant) (e : Entry StoredUpload) (y : Chain) (declared expires : Option ℕ) (taken : ℕ) : Type 0 where
  pub quota : changed.quota ≡ old.quota
  pub next : changed.next ≡ old.next
  pub charge : changed.charge ≡ old.charge + taken
  pub uploads : changed.uploads.items ≡ set old.uploads.items i (with_head (with_chain e y) declared expires)
  pub room : HasUploadRoom v.room changed
  pub more : length y.blocks ≡ length (own_chain e.kept.pieces).blocks + taken

put-stored_tenant : (v : Inside) (i : ℕ) (old changed : KeptTenant) (e : Entry StoredUpload) (y : Chain) (declared expires : Option ℕ) (taken : ℕ) → IsPutIn v i old changed e y declared expires taken
    → stored_tenant_of changed ≡ with_entry (stored_tenant_of old) i (with_head (with_chain e y) declared expires)
put-stored_tenant v i old changed e y declared expires taken is = rw (is.quota, is.next, is.uploads) refl

module _ (v : Inside) (t i : ℕ) (old changed : KeptTenant) (e : Entry StoredUpload) (bytes : List ℕ) (q : Blocks) (y : Chain) (declared expires : Option ℕ) (taken : ℕ) (kept : IsKept v) (puts : PutsIn v t i old e bytes q y)
    (is : IsPutIn v i old changed e y declared expires taken) where
  abbrev after : Entry StoredUpload
  after = with_head (with_chain e y) declared expires

  -- all pieces read whole
  put-reads : ReadsWhole q (pieces_of (with_entry (stored_tenant_of old) i after))
  put-reads x c =
      let own = own-read v t i old e kept puts.part puts.entry puts.own in
      let on = IsStoredOn-stored_tenant v.pool (store_of v).stored_tenants t (stored_tenant_of old) kept.stored (IsStoredTenant-part v t old puts.part) in
      elim (Contains-with_entry (stored_tenant_of old) i after x puts.entry.within c) [
        | inl here ↦ elim (Contains-cases (own_piece e.id y) x [] here) [
          | inl same ↦ subst (λ (x : Piece). length (content_of q x.chain) ≡ x.chain.len) same whole
          | inr nothing ↦ absurd (Contains-none x nothing)
        ]
        | inr rest ↦
            let same = content-same v.pool q x.chain (λ b some. put-keeps v.pool (stored_tenant_of old) i e (own_chain e.kept.pieces) bytes q y on puts.entry own puts.puts b (omega (arith, some, places-within b (pieces_of (without (stored_tenant_of old) i)) x rest))) in
            ap (length {A = ℕ}) same ∙ reads-part v t old kept puts.part x (Contains-without (stored_tenant_of old) i x rest)
      ]
    where
      whole : length (content_of q y) ≡ y.len
      whole =
          let own = own-read v t i old e kept puts.part puts.entry puts.own in
          let before : length (content_of v.pool (own_chain e.kept.pieces)) ≡ (own_chain e.kept.pieces).len = own-whole v t i old e kept puts.part puts.entry own in
          omega (arith, ap (length {A = ℕ}) puts.puts.content, length-append (content_of v.pool (own_chain e.kept.pieces)) bytes, before, puts.puts.len)

  -- the store is kept
  pub IsKept-put : IsKept (with_stored_tenant v q t changed)
  IsKept-put =
      let stored_tenant = put-stored_tenant v i old changed e y declared expires taken is in
      let part = IsStoredTenant-part v t old puts.part in
      let own = own-read v t i old e kept puts.part puts.entry puts.own in
      let x = own_chain e.kept.pieces in
      IsKept-with_stored_tenant v q t old changed kept puts.part puts.puts.sizes
      (subst (λ (s : StoredTenant). HoldsPieces q (set (store_of v).stored_tenants t s)) (sym stored_tenant) (HoldsPieces-put v.pool (store_of v).stored_tenants t (stored_tenant_of old) i e after x bytes q y kept.stored part puts.entry own puts.alone puts.puts refl))
      (put-keeps_elsewhere v.pool (store_of v).stored_tenants t (stored_tenant_of old) i e x bytes q y kept.stored part puts.entry own puts.puts)
      (subst (λ (s : StoredTenant). All HasOwnPiece s.uploads) (sym stored_tenant) (All-set HasOwnPiece (stored_tenant_of old).uploads i after (HasOwnPiece-from after y refl) (own-part v t old kept puts.part)))
      (subst (λ (s : StoredTenant). ReadsWhole q (pieces_of s)) (sym stored_tenant) put-reads)
      (subst AreInOrder (sym stored_tenant) (AreInOrder-set (stored_tenant_of old) i e after puts.entry refl (HasNoLaterPiece-own after (own_piece e.id y) refl refl) (order-part v t old kept puts.part)))
      (omega (
        arith,
        is.charge,
        is.more,
        charge-part v t old kept puts.part,
        put-charge v.pool (store_of v).stored_tenants t (stored_tenant_of old) i e after x bytes q y kept.stored part puts.entry own puts.alone puts.puts refl,
        ap (charge_on v.pool.block_size) stored_tenant,
      ))
      is.room

  -- the plain book's upload has the bytes
  pub plain-put : plain_in (store_of (with_stored_tenant v q t changed))
      ≡ set (plain_in (store_of v)) t (with_upload (part_at (store_of v) t) i (record { id = e.id; kept = with_bytes (upload_of v.pool e.kept) bytes declared expires }))
  plain-put =
      let stored_tenant = put-stored_tenant v i old changed e y declared expires taken is in
      let part = IsStoredTenant-part v t old puts.part in
      let on = IsStoredOn-stored_tenant v.pool (store_of v).stored_tenants t (stored_tenant_of old) kept.stored part in
      let own = own-read v t i old e kept puts.part puts.entry puts.own in
      let x = own_chain e.kept.pieces in
      plain_in-with_stored_tenant v q t old changed puts.part (put-keeps_elsewhere v.pool (store_of v).stored_tenants t (stored_tenant_of old) i e x bytes q y kept.stored part puts.entry own puts.puts)
      ∙ ap (set (plain_in (store_of v)) t) (ap (part_of q) stored_tenant ∙ part-with_entry v.pool q (stored_tenant_of old) i after puts.entry.within (put-keeps v.pool (stored_tenant_of old) i e x bytes q y on puts.entry own puts.puts)
      ∙ ap (λ u. with_upload (part_of v.pool (stored_tenant_of old)) i (record { id = e.id; kept = u })) (upload-put v.pool e.kept e.id x bytes q y declared expires own puts.puts)
      ∙ ap (λ (s : StoredTenant). with_upload (part_of v.pool s) i (record { id = e.id; kept = with_bytes (upload_of v.pool e.kept) bytes declared expires })) (sym (stored_tenant_at-part v t old puts.part)))

  -- the tenant pays for the blocks that were taken
  pub charge-put : charge_with v.pool.block_size (part_at (store_of (with_stored_tenant v q t changed)) t) ≡ charge_with v.pool.block_size (part_at (store_of v) t) + taken
  charge-put =
      let w = with_stored_tenant v q t changed in
      let part : IsPart w t changed = with_stored_tenant-part v q t old changed puts.part in
      let now : charge_with v.pool.block_size (part_at (store_of w) t) ≡ changed.charge =
      subst (λ size. charge_with size (part_at (store_of w) t) ≡ changed.charge) puts.puts.sizes.bytes (charge_with-part w t changed IsKept-put part ∙ sym (charge-part w t changed IsKept-put part)) in
      omega (arith, now, is.charge, charge-part v t old kept puts.part, charge_with-part v t old kept puts.part)

-- the upload at a place is alone with its origin
pub alone-read : (v : Inside) (s : BlockStore) (t i : ℕ) (old : KeptTenant) (e : Entry StoredUpload) → IsKept v → store_of v ≡ s → IsPart v t old → IsEntry (stored_tenant_of old) i e → places.IsAlone s t i → IsAlone (stored_tenant_of old) i e.id
alone-read v s t i old e kept is part entry alone =
    let stored_tenant : stored_tenant_at s t ≡ stored_tenant_of old = ap (λ (s : BlockStore). stored_tenant_at s t) (sym is) ∙ stored_tenant_at-part v t old part in
    subst (λ (stored_tenant : StoredTenant). IsAlone stored_tenant i e.id) stored_tenant
    (alone-store s t i e (subst (λ (stored_tenant : StoredTenant). All HasOwnPiece stored_tenant.uploads) (sym stored_tenant) (own-part v t old kept part)) (subst (λ (stored_tenant : StoredTenant). IsEntry stored_tenant i e) (sym stored_tenant) entry) alone)

-- so many blocks are free
pub free-read : (v : Inside) (more : ℕ) → IsKept v → sum_by (charge_with v.pool.block_size) (plain_in (store_of v)) + more ≤ size_of v.pool → more ≤ free_in v.pool
free-read v more kept room = omega (arith, room, charges-kept v kept, blocks_in_use v.pool (store_of v).stored_tenants kept.stored)

-- a tenant pays no more than all do
pub charge-few : (v : Inside) (t : ℕ) (old : KeptTenant) (more : ℕ) → IsKept v → IsPart v t old → sum_by (charge_with v.pool.block_size) (plain_in (store_of v)) + more ≤ size_of v.pool → old.charge + more < 2 ^ 64
charge-few v t old more kept part room =
    let stored_tenant = IsStoredTenant-part v t old part in
    let here : charge_on v.pool.block_size (get_or (store_of v).stored_tenants t (stored_tenant_of old)) ≡ charge_on v.pool.block_size (stored_tenant_of old) = ap (charge_on v.pool.block_size) (sym stored_tenant.read) in
    omega (arith, room, here, kept.blocks, charges-kept v kept, charge-part v t old kept part, sum_by-remove (charge_on v.pool.block_size) (store_of v).stored_tenants t (stored_tenant_of old) stored_tenant.within)

-- the blocks that bytes need are those between its length and theirs
pub needs-read : (v : Inside) (t i : ℕ) (old : KeptTenant) (e : Entry StoredUpload) (more : ℕ) → IsKept v → IsPart v t old → IsEntry (stored_tenant_of old) i e → e.kept.kind ≢ Final
    → blocks_with v.pool (own_chain e.kept.pieces) more ≡ length (own_chain e.kept.pieces).blocks + blocks_between v.pool.block_size (offset_of (upload_of v.pool e.kept)) more
needs-read v t i old e more kept part entry own =
    let piece = own-read v t i old e kept part entry own in
    let x = own_chain e.kept.pieces in
    let offset : offset_of (upload_of v.pool e.kept) ≡ x.len = ap (length {A = ℕ}) (content-own v.pool e.kept e.id x piece) ∙ own-whole v t i old e kept part entry piece in
    let blocks = (body-read v t i old e kept part entry own).blocks in
    rw offset (omega (arith, blocks, blocks_between-adds v.pool.block_size x.len more))
