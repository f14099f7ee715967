-- How a store keeps the uploads of all tenants.
use Rattle.std.specs.Prelude.{◌≡◌, ◌+◌, ◌≤◌, ◌<◌, ◌^◌, ℕ, length, map, vec_len, vec_capacity, All, Option, Some, Ok, slice_index_or}
use Rattle.block_pool.specs.Blocks.{size_of}
use Rattle.upload_book.specs.declared.stored_tenant.StoredTenant.{StoredTenant as KeptTenant}
use Rattle.upload_book.specs.declared.block_store.BlockStore.TheInside.{Inside}
use Rattle.upload_book.specs.BlockStore.{BlockStore}
use Rattle.upload_book.specs.Stored.{StoredTenant, StoredUpload, HoldsPieces, pieces_of, part_kept, charge_on}
use Rattle.upload_book.specs.inside.Ids.{AreBelow}
use Rattle.upload_book.specs.inside.Pieces.{HasNoLaterPiece, HasOwnPiece, ReadsWhole}
use Rattle.upload_book.specs.inside.Texts.{is_reserved}
use Rattle.upload_book.specs.TenantBook.{Entry, visible_in}

-- the tenant's part that is kept so
abbrev pub stored_tenant_of : KeptTenant → StoredTenant
stored_tenant_of t = record { quota = t.quota; next = t.next; uploads = t.uploads.items }

-- the store that is kept so
abbrev pub store_of : Inside → BlockStore
store_of s = record {
  pool = s.pool;
  stored_tenants = map {A = KeptTenant} {B = StoredTenant} stored_tenant_of s.stored_tenants.items;
  room = s.room;
}

-- There is room for so many uploads of a tenant. Where they are at most 64, there are as many boxes for texts: each upload
-- has one, and the others are spare. So no box is lost, and one is spare where an upload may be added.
pub record HasUploadRoom (room : ℕ) (t : KeptTenant) : Type 0 where
  pub uploads : room ≤ vec_capacity t.uploads
  pub boxed : All (λ (e : Entry StoredUpload). e.kept.boxed ≡ is_reserved room) t.uploads.items
  pub spare : room ≤ 64 → room ≤ vec_capacity t.spare
  pub boxes : room ≤ 64 → vec_len t.uploads + vec_len t.spare ≡ room

-- uploads stand by their ids, and none has a piece that was sent to a later one
pub record AreInOrder (stored_tenant : StoredTenant) : Type 0 where
  pub ids : AreBelow stored_tenant.next stored_tenant.uploads
  pub origins : All HasNoLaterPiece stored_tenant.uploads

-- The blocks are kept as they should be, and each upload that is not final has its own piece. Each part is in order, and
-- it knows what its tenant pays and has room for as many uploads as it may have.
pub record IsKept (s : Inside) : Type 0 where
  pub stored : HoldsPieces s.pool (store_of s).stored_tenants
  pub own : All (λ (stored_tenant : StoredTenant). All HasOwnPiece stored_tenant.uploads) (store_of s).stored_tenants
  pub reads : All (λ (stored_tenant : StoredTenant). ReadsWhole s.pool (pieces_of stored_tenant)) (store_of s).stored_tenants
  pub order : All AreInOrder (store_of s).stored_tenants
  pub size : 0 < s.pool.block_size
  pub blocks : size_of s.pool < 2 ^ 64
  pub charges : All (λ (t : KeptTenant). t.charge ≡ charge_on s.pool.block_size (stored_tenant_of t)) s.stored_tenants.items
  pub room : All (HasUploadRoom s.room) s.stored_tenants.items

-- a part of a concatenation that is named so is, at this moment, the partial upload at this place
pub record IsPartAt (stored_tenant : StoredTenant) (named : Option ℕ) (now place : ℕ) : Type 0 where
  pub there : place < length stored_tenant.uploads
  pub seen : (d : Entry StoredUpload) → part_kept stored_tenant now named ≡ Some (slice_index_or stored_tenant.uploads place d)

-- a request for the id sees, at this moment, the upload at this place
pub record IsVisibleAt (stored_tenant : StoredTenant) (id now place : ℕ) : Type 0 where
  pub there : place < length stored_tenant.uploads
  pub named : (d : Entry StoredUpload) → (slice_index_or stored_tenant.uploads place d).id ≡ id
  pub visible : (d : Entry StoredUpload) → visible_in (λ u. u.expires) stored_tenant id now ≡ Ok (slice_index_or stored_tenant.uploads place d).kept
