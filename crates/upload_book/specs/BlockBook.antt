-- The blocks of a book as whoever calls it sees them: in which blocks the bytes of each upload lie, and who holds each block.
use Rattle.std.specs.Prelude.{◌≡◌, ◌⊎◌, ℕ, ◌+◌, ◌≤◌, List, [], Contains, All, flat_map, get_or, length, map, take, Some}
use Rattle.std.specs.List.{sum_by}
use Rattle.block_pool.specs.Blocks.{Blocks, bytes_of, count_at, free_in, places_of, size_of}
use Rattle.block_bodies.specs.Bodies.{StandsOnce, blocks_for}
use Rattle.upload_book.specs.declared.head_row.Kind.TheVariants.{Plain}
use Rattle.upload_book.specs.declared.head_row.Name.{Name}
use Rattle.upload_book.specs.declared.pieces.Piece.{Piece}
use Rattle.upload_book.specs.Book.{StoredBook}
use Rattle.upload_book.specs.Charge.{charge_in}
use Rattle.upload_book.specs.PlainBook.{PlainBook, tenant_book}
use Rattle.upload_book.specs.Stored.{StoredTenant, StoredUpload, some_of}
use Rattle.upload_book.specs.TenantBook.{Entry, TenantBook, kept_in}
use Rattle.upload_book.specs.Upload.{Upload, IsComplete}

-- a segment of an upload: how many bytes it has, and in which blocks they lie
pub record Extent : Type 0 where
  pub len : ℕ
  pub blocks : List ℕ

-- a tenant's uploads by id, each with an extent for each of its segments
abbrev pub Extents : Type 0
Extents = List (Entry (List Extent))

-- all blocks, and the extents of each tenant of the settings
pub record BlockBook : Type 0 where
  pub pool : Blocks
  pub tenants : List Extents

-- a piece that is kept, without what only its keeper needs
abbrev pub extent_of : Piece → Extent
extent_of x = record { len = x.chain.len; blocks = x.chain.blocks }

-- the extents of an upload
abbrev pub upload_extents : Entry StoredUpload → Entry (List Extent)
upload_extents e = record { id = e.id; kept = map {A = Piece} {B = Extent} extent_of e.kept.pieces }

-- the extents of a tenant
abbrev pub tenant_extents : StoredTenant → Extents
tenant_extents t = map {A = Entry StoredUpload} {B = Entry (List Extent)} upload_extents t.uploads

-- the blocks of a book
abbrev pub blocks_of : StoredBook → BlockBook
blocks_of b = record {
  pool = b.store.pool;
  tenants = map {A = StoredTenant} {B = Extents} tenant_extents b.store.stored_tenants;
}

-- all extents of a tenant, upload by upload
abbrev pub extents_on : Extents → List Extent
extents_on uploads = flat_map (λ (e : Entry (List Extent)). e.kept) uploads

-- how often a tenant holds a block: at how many places of its extents the block stands
abbrev pub holders_on : ℕ → Extents → ℕ
holders_on block uploads = places_of block (flat_map (λ (x : Extent). x.blocks) (extents_on uploads))

-- how many hold a block: all places at which it stands
abbrev pub holders_in : BlockBook → ℕ → ℕ
holders_in v block = sum_by (holders_on block) v.tenants

-- Each block is counted by exactly its holders, so it is free where it has none. No block is two tenants'.
pub record AreCounted (v : BlockBook) : Type 0 where
  pub counts : (block : ℕ) → count_at v.pool block ≡ holders_in v block
  pub apart : (block : ℕ) → sum_by (λ uploads. some_of (holders_on block uploads)) v.tenants ≤ 1

-- an extent has as many blocks as its bytes take, none of them twice
pub record IsExtent (size : ℕ) (x : Extent) : Type 0 where
  pub blocks : length x.blocks ≡ blocks_for size x.len
  pub once : StandsOnce x.blocks

-- so has each of the book
abbrev pub AreExtents : BlockBook → Type 0
AreExtents v = All (λ uploads. (x : Extent) → Contains (extents_on uploads) x → IsExtent v.pool.block_size x) v.tenants

-- the bytes of an extent, read through its blocks
abbrev pub bytes_in : Blocks → Extent → List ℕ
bytes_in p x = take x.len (bytes_of p x.blocks)

-- all bytes that are read through blocks, tenant by tenant, upload by upload, segment by segment
abbrev pub all_read : BlockBook → List (List (Entry (List (List ℕ))))
all_read v =
    map {A = Extents} {B = List (Entry (List (List ℕ)))}
    (λ uploads. map {A = Entry (List Extent)} {B = Entry (List (List ℕ))} (λ e. record { id = e.id; kept = map (bytes_in v.pool) e.kept }) uploads)
    v.tenants

-- all bytes of the plain book, in the same way
abbrev pub all_segments : PlainBook → List (List (Entry (List (List ℕ))))
all_segments b =
    map {A = TenantBook} {B = List (Entry (List (List ℕ)))}
    (λ part. map {A = Entry Upload} {B = Entry (List (List ℕ))} (λ e. record { id = e.id; kept = e.kept.segments }) part.uploads)
    b.tenants

-- the extents of the upload of a name
abbrev pub HasExtents : BlockBook → Name → List Extent → Type 0
HasExtents v name extents = kept_in (get_or v.tenants name.tenant []) name.id ≡ Some extents

-- The blocks of an upload have one holder each, unless it is a final one, or a part that has all of its bytes, which final
-- ones may hold too.
abbrev pub AreOwn : BlockBook → PlainBook → Type 0
AreOwn v b =
    (name : Name) (u : Upload) (extents : List Extent) (x : Extent) (block : ℕ)
    → kept_in (tenant_book b name.tenant).uploads name.id ≡ Some u → HasExtents v name extents
    → (u.kind ≡ Plain) ⊎ ¬ (IsComplete u)
    → Contains extents x → Contains x.blocks block → holders_in v block ≡ 1

-- the blocks are those of the settings, and each is free or paid by some tenant
pub record FitsPool (p : Blocks) (b : PlainBook) : Type 0 where
  pub size : p.block_size ≡ b.settings.numbers.block_size
  pub blocks : size_of p ≡ b.settings.numbers.blocks
  pub free : free_in p + sum_by (charge_in b.settings.numbers) b.tenants ≡ size_of p

-- The blocks hold a plain book: they are counted by exactly their holders, and all bytes that are read through them are
-- those of the plain book.
pub record HoldsBook (v : BlockBook) (b : PlainBook) : Type 0 where
  pub fits : FitsPool v.pool b
  pub counted : AreCounted v
  pub extents : AreExtents v
  pub own : AreOwn v b
  pub read : all_read v ≡ all_segments b
