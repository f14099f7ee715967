-- The uploads of all tenants, in blocks of one pool.
use Rattle.std.specs.Prelude.{◌≡◌, ℕ, true, List, [], flat_map, map, length, get_or, Option, None, option_and_then, option_map}
use Rattle.block_pool.specs.Blocks.{Blocks, bytes_at, count_at, free_in}
use Rattle.upload_book.specs.Concat.{parts_found, rows_of}
use Rattle.upload_book.specs.declared.head_row.HeadRow.{HeadRow}
use Rattle.upload_book.specs.declared.head_row.Kind.TheVariants.{Plain}
use Rattle.upload_book.specs.declared.pieces.Piece.{Piece}
use Rattle.upload_book.specs.declared.settings.TenantQuota.{TenantQuota}
use Rattle.upload_book.specs.NewFinal.{NewFinal}
use Rattle.upload_book.specs.Stored.{StoredTenant, StoredUpload, block_at, part_of, parts_kept, segment_of, upload_of}
use Rattle.upload_book.specs.TenantBook.{TenantBook, Entry, kept_in, opening_part}
use Rattle.upload_book.specs.Upload.{Upload}

-- the pool, the tenants' parts in the order of the settings, and for how many uploads of each there is room
pub record BlockStore : Type 0 where
  pub pool : Blocks
  pub stored_tenants : List StoredTenant
  pub room : ℕ

-- the tenants' parts at the start
abbrev pub opening_stored_tenants : List TenantQuota → List StoredTenant
opening_stored_tenants tenants = map {A = TenantQuota} {B = StoredTenant} (λ t. opening_part t.quota) tenants

-- the tenants' parts as the plain book has them
abbrev pub plain_in : BlockStore → List TenantBook
plain_in s = map {A = StoredTenant} {B = TenantBook} (part_of s.pool) s.stored_tenants

-- a tenant's part
abbrev pub stored_tenant_at : BlockStore → ℕ → StoredTenant
stored_tenant_at s tenant = get_or s.stored_tenants tenant (opening_part 0)

-- the same as the plain book has it
abbrev pub part_at : BlockStore → ℕ → TenantBook
part_at s tenant = part_of s.pool (stored_tenant_at s tenant)

-- no upload, and so nothing that is kept
abbrev pub no_upload : Entry StoredUpload
no_upload = record {
  id = 0;
  kept = record { kind = Plain; declared = None; pieces = []; metadata = []; concat = []; expires = None; boxed = true };
}

-- what is kept at a place of a tenant's part
abbrev pub entry_at : BlockStore → ℕ → ℕ → Entry StoredUpload
entry_at s tenant place = get_or (stored_tenant_at s tenant).uploads place no_upload

-- the upload at a place as the plain book has it
abbrev pub upload_at : BlockStore → ℕ → ℕ → Upload
upload_at s tenant place = upload_of s.pool (entry_at s tenant place).kept

-- how many hold the block at a place of one of the segments of the upload with an id, where there is one
abbrev pub holders_at : BlockStore → ℕ → ℕ → ℕ → ℕ → Option ℕ
holders_at s tenant id segment place =
    option_map (count_at s.pool) (option_and_then (λ u. block_at u segment place) (kept_in (stored_tenant_at s tenant).uploads id))

-- what a HEAD tells of the parts that are named, where they are there
abbrev pub rows_at : BlockStore → ℕ → List (Option ℕ) → ℕ → List HeadRow
rows_at s tenant named now = rows_of (parts_found (part_at s tenant) now named)

-- the pieces of the parts that are named
abbrev pub pieces_named : BlockStore → ℕ → List (Option ℕ) → ℕ → List Piece
pieces_named s tenant named now =
    flat_map (λ (e : Entry StoredUpload). e.kept.pieces) (parts_kept (stored_tenant_at s tenant) now named)

-- A final upload was joined at the end of a tenant's part: its pieces have the blocks of its parts. No block was
-- taken for it, and no byte copied: as many are free as before, and each block has its bytes.
pub record Joins (before after : BlockStore) (tenant : ℕ) (new : NewFinal) (now : ℕ) : Type 0 where
  pub blocks : map segment_of (entry_at after tenant (length (stored_tenant_at before tenant).uploads)).kept.pieces ≡ map segment_of (pieces_named before tenant new.parts now)
  pub free : free_in after.pool ≡ free_in before.pool
  pub bytes : (b : ℕ) → bytes_at after.pool b ≡ bytes_at before.pool b
