-- The store where uploads end.
use Rattle.std.proofs.Common.{◌≡◌, ◌≢◌, ℕ, ◌+◌, ◌≤◌, List, length, set, refl, sym, ap, ◌∙◌, subst, arith}
use Rattle.std.specs.List.{All}
use Rattle.block_pool.specs.Blocks.{Blocks}
use Rattle.block_bodies.specs.Bodies.{IsHeld}
use Rattle.block_bodies.specs.Changes.{GivesBack}
use Rattle.upload_book.specs.Charge.{charge_with}
use Rattle.upload_book.specs.declared.stored_tenant.StoredTenant.{StoredTenant as KeptTenant}
use Rattle.upload_book.specs.declared.block_store.BlockStore.TheInside.{Inside}
use Rattle.upload_book.specs.inside.Kept.{stored_tenant_of, store_of, AreInOrder, HasUploadRoom, IsKept}
use Rattle.upload_book.specs.BlockStore.{plain_in, part_at}
use Rattle.upload_book.specs.inside.Places.{without_upload}
use Rattle.upload_book.specs.declared.pieces.Piece.{Piece}
use Rattle.upload_book.specs.Stored.{StoredTenant, StoredUpload, part_of, pieces_of, placed_in, places_on, charge_on, HoldsPieces}
use Rattle.upload_book.specs.inside.Pieces.{ReadsWhole, HasOwnPiece}
use Rattle.upload_book.specs.TenantBook.{Entry}
use Rattle.upload_book.proofs.Store.InOrder.{AreInOrder-remove}
use Rattle.upload_book.proofs.Store.GoneLemmas.{gone-held, HoldsPieces-gone, gone-charge}
use Rattle.upload_book.proofs.Charge.InUse.{places-within}
use Rattle.upload_book.proofs.Store.Pieces.{IsEntry, Leaves, Leaves-without, without, All-remove}
use Rattle.upload_book.proofs.Store.PlainStoredTenants.{KeepBytes, content-same, gone-keeps, gone-keeps_elsewhere, part-same, part-without}
use Rattle.upload_book.proofs.Store.StoredTenants.{IsStoredTenant, IsStoredOn-stored_tenant}
use Rattle.upload_book.proofs.Store.StoreLemmas.{with_stored_tenant, with_stored_tenant-part, IsPart, IsStoredTenant-part, stored_tenant_at-part, own-part, order-part, reads-part, charge-part, charge_with-part, IsKept-with_stored_tenant, plain_in-with_stored_tenant}

-- a part is read, some of its pieces leave it, and their blocks are given back
pub record GivesUp (v : Inside) (t : ℕ) (old : KeptTenant) (s : StoredTenant) (gone : List Piece) (freed : ℕ) (q : Blocks) : Type 0 where
  pub part : IsPart v t old
  pub leaves : Leaves (stored_tenant_of old) s gone
  pub gives : GivesBack v.pool (placed_in gone) freed q

-- what it gives back is held
pub given-held : (v : Inside) (t : ℕ) (old : KeptTenant) (s : StoredTenant) (gone : List Piece) → IsKept v → IsPart v t old → Leaves (stored_tenant_of old) s gone → IsHeld v.pool (placed_in gone)
given-held v t old s gone kept is leaves =
    gone-held v.pool (stored_tenant_of old) s gone (IsStoredOn-stored_tenant v.pool (store_of v).stored_tenants t (stored_tenant_of old) kept.stored (IsStoredTenant-part v t old is)) leaves

-- the part without them, in order
pub record IsGivenUp (v : Inside) (old changed : KeptTenant) (s : StoredTenant) (freed : ℕ) : Type 0 where
  pub stored_tenant : stored_tenant_of changed ≡ s
  pub charge : changed.charge + freed ≡ old.charge
  pub own : All HasOwnPiece s.uploads
  pub order : AreInOrder s
  pub room : HasUploadRoom v.room changed

module _ (v : Inside) (t : ℕ) (old : KeptTenant) (s : StoredTenant) (gone : List Piece) (freed : ℕ) (q : Blocks) (kept : IsKept v) (gives : GivesUp v t old s gone freed q) where
  there : IsStoredTenant (store_of v).stored_tenants t (stored_tenant_of old)
  there = IsStoredTenant-part v t old gives.part

  -- the tenant pays for what becomes free
  given-charge : charge_on v.pool.block_size s + freed ≡ old.charge
  given-charge = gone-charge v.pool (store_of v).stored_tenants t (stored_tenant_of old) s gone freed q kept.stored there gives.leaves gives.gives ∙ sym (charge-part v t old kept gives.part)

  pub given-within : freed ≤ old.charge
  given-within = omega (arith, given-charge)

  -- the blocks of what is left keep their bytes,
  keeps : KeepBytes v.pool q (λ b. places_on b s)
  keeps = gone-keeps v.pool (stored_tenant_of old) s gone freed q (IsStoredOn-stored_tenant v.pool (store_of v).stored_tenants t (stored_tenant_of old) kept.stored there) gives.leaves gives.gives

  -- and those of the other tenants
  keeps_elsewhere : (k : ℕ) (other : StoredTenant) → IsStoredTenant (store_of v).stored_tenants k other → k ≢ t → KeepBytes v.pool q (λ b. places_on b other)
  keeps_elsewhere = gone-keeps_elsewhere v.pool (store_of v).stored_tenants t (stored_tenant_of old) s gone freed q kept.stored there gives.leaves gives.gives

  reads : ReadsWhole q (pieces_of s)
  reads x c =
      let same = content-same v.pool q x.chain (λ b some. keeps b (omega (arith, some, places-within b (pieces_of s) x c))) in
      ap (length {A = ℕ}) same ∙ reads-part v t old kept gives.part x (gives.leaves.stays x c)

  module _ (changed : KeptTenant) (is : IsGivenUp v old changed s freed) where
    -- the store is kept
    pub IsKept-given : IsKept (with_stored_tenant v q t changed)
    IsKept-given =
        IsKept-with_stored_tenant v q t old changed kept gives.part gives.gives.sizes
        (subst (λ (s : StoredTenant). HoldsPieces q (set (store_of v).stored_tenants t s)) (sym is.stored_tenant) (HoldsPieces-gone v.pool (store_of v).stored_tenants t (stored_tenant_of old) s gone freed q kept.stored there gives.leaves gives.gives))
        keeps_elsewhere
        (subst (λ (s : StoredTenant). All HasOwnPiece s.uploads) (sym is.stored_tenant) is.own)
        (subst (λ (s : StoredTenant). ReadsWhole q (pieces_of s)) (sym is.stored_tenant) reads)
        (subst AreInOrder (sym is.stored_tenant) is.order)
        (omega (arith, is.charge, given-charge, ap (charge_on v.pool.block_size) is.stored_tenant))
        is.room

    -- the plain book has what is left
    pub plain-given : plain_in (store_of (with_stored_tenant v q t changed)) ≡ set (plain_in (store_of v)) t (part_of v.pool s)
    plain-given =
        plain_in-with_stored_tenant v q t old changed gives.part keeps_elsewhere
        ∙ ap (set (plain_in (store_of v)) t) (ap (part_of q) is.stored_tenant ∙ part-same v.pool q s keeps)

    -- the tenant pays for as many blocks less as became free
    pub charge-given : charge_with v.pool.block_size (part_at (store_of (with_stored_tenant v q t changed)) t) + freed ≡ charge_with v.pool.block_size (part_at (store_of v) t)
    charge-given =
        let w = with_stored_tenant v q t changed in
        let part : IsPart w t changed = with_stored_tenant-part v q t old changed gives.part in
        let after : charge_with v.pool.block_size (part_at (store_of w) t) ≡ changed.charge =
        subst (λ size. charge_with size (part_at (store_of w) t) ≡ changed.charge) gives.gives.sizes.bytes (charge_with-part w t changed IsKept-given part ∙ sym (charge-part w t changed IsKept-given part)) in
        omega (arith, after, is.charge, charge-part v t old kept gives.part, charge_with-part v t old kept gives.part)

-- an upload is read in a part, and ends
pub GivesUp-upload : (v : Inside) (t i : ℕ) (old : KeptTenant) (e : Entry StoredUpload) (freed : ℕ) (q : Blocks) → IsPart v t old → IsEntry (stored_tenant_of old) i e → GivesBack v.pool (placed_in e.kept.pieces) freed q
    → GivesUp v t old (without (stored_tenant_of old) i) e.kept.pieces freed q
GivesUp-upload v t i old e freed q part entry gives = record { part = part; leaves = Leaves-without (stored_tenant_of old) i e entry; gives = gives }

-- the part without it
pub IsGivenUp-upload : (v : Inside) (t i : ℕ) (old changed : KeptTenant) (e : Entry StoredUpload) (freed : ℕ) → IsKept v → IsPart v t old → IsEntry (stored_tenant_of old) i e
    → stored_tenant_of changed ≡ without (stored_tenant_of old) i → changed.charge + freed ≡ old.charge → HasUploadRoom v.room changed → IsGivenUp v old changed (without (stored_tenant_of old) i) freed
IsGivenUp-upload v t i old changed e freed kept part entry same charge room = record {
  stored_tenant = same;
  charge = charge;
  own = All-remove HasOwnPiece old.uploads.items i (own-part v t old kept part);
  order = AreInOrder-remove (stored_tenant_of old) i e entry (order-part v t old kept part);
  room = room;
}

-- the plain book loses the upload
pub plain-upload : (v : Inside) (t i : ℕ) (old : KeptTenant) → IsPart v t old → part_of v.pool (without (stored_tenant_of old) i) ≡ without_upload (part_at (store_of v) t) i
plain-upload v t i old part =
    part-without v.pool v.pool (stored_tenant_of old) i (λ b some. refl)
    ∙ ap (λ (s : StoredTenant). without_upload (part_of v.pool s) i) (sym (stored_tenant_at-part v t old part))
