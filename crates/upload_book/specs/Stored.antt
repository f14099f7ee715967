-- How a book keeps its uploads in blocks, and what it keeps of them.
use Rattle.std.specs.Prelude.{◌≡◌, ℕ, ◌<◌, ◌≤◌, ◌==◌, Bool, List, [], All, Contains, flat_map, length, map, Option, option_and_then, slice_get, if◌then◌else◌}
use Rattle.std.specs.List.{sum_by}
use Rattle.block_pool.specs.Blocks.{Blocks, count_at, places_of}
use Rattle.block_bodies.specs.Bodies.{StandsOnce, blocks_for, content_of}
use Rattle.upload_book.specs.Charge.{Source, charge_of}
use Rattle.upload_book.specs.Concat.{part_named, parts_named}
use Rattle.upload_book.specs.declared.head_row.Kind.{Kind}
use Rattle.upload_book.specs.declared.head_row.Kind.TheVariants.{Plain, Partial, Final}
use Rattle.upload_book.specs.declared.pieces.Piece.{Piece}
use Rattle.upload_book.specs.TenantBook.{TenantBook, TenantPart, Entry}
use Rattle.upload_book.specs.Upload.{Upload}

-- an upload as it is kept: for each segment that the plain book has, a piece; and whether its texts lie in a box that was
-- there from the start
pub record StoredUpload : Type 0 where
  pub kind : Kind
  pub declared : Option ℕ
  pub pieces : List Piece
  pub metadata : List ℕ
  pub concat : List ℕ
  pub expires : Option ℕ
  pub boxed : Bool

-- the block at a place of one of an upload's pieces, both from 0, where there is one
abbrev pub block_at : StoredUpload → ℕ → ℕ → Option ℕ
block_at u piece place = option_and_then (λ (x : Piece). slice_get x.chain.blocks place) (slice_get u.pieces piece)

-- a tenant's part as it is kept
abbrev pub StoredTenant : Type 0
StoredTenant = TenantPart StoredUpload

-- the ids of an upload's parts, which only a final one has
abbrev pub parts_of : Kind → List ℕ → List ℕ
parts_of Plain origins = []
parts_of Partial origins = []
parts_of Final origins = origins

-- the upload that is kept so: its bytes are read through its blocks
abbrev pub upload_of : Blocks → StoredUpload → Upload
upload_of p u = record {
  kind = u.kind;
  parts = parts_of u.kind (map {A = Piece} {B = ℕ} (λ x. x.origin) u.pieces);
  declared = u.declared;
  segments = map {A = Piece} {B = List ℕ} (λ x. content_of p x.chain) u.pieces;
  metadata = u.metadata;
  concat = u.concat;
  expires = u.expires;
}

-- the same under its id
abbrev pub entry_of : Blocks → Entry StoredUpload → Entry Upload
entry_of p e = record { id = e.id; kept = upload_of p e.kept }

-- the tenant's part that is kept so
abbrev pub part_of : Blocks → StoredTenant → TenantBook
part_of p stored_tenant = record {
  quota = stored_tenant.quota;
  next = stored_tenant.next;
  uploads = map {A = Entry StoredUpload} {B = Entry Upload} (entry_of p) stored_tenant.uploads;
}

-- the partial upload that a part of a concatenation names, as it is kept
abbrev pub part_kept : StoredTenant → ℕ → Option ℕ → Option (Entry StoredUpload)
part_kept stored_tenant now named = part_named (λ u. u.kind) (λ u. u.expires) stored_tenant now named

-- those that are named, in their order
abbrev pub parts_kept : StoredTenant → ℕ → List (Option ℕ) → List (Entry StoredUpload)
parts_kept stored_tenant now named = parts_named (λ u. u.kind) (λ u. u.expires) stored_tenant now named

-- all pieces of a tenant
abbrev pub pieces_of : StoredTenant → List Piece
pieces_of stored_tenant = flat_map (λ (e : Entry StoredUpload). e.kept.pieces) stored_tenant.uploads

-- how many bytes some pieces have together
abbrev pub pieces_len : List Piece → ℕ
pieces_len pieces = sum_by (λ (x : Piece). x.chain.len) pieces

-- what pieces of the same blocks share: the origin, the blocks and the number of bytes, and not the room of the list
pub record Segment : Type 0 where
  pub origin : ℕ
  pub blocks : List ℕ
  pub len : ℕ

-- the segment of a piece
abbrev pub segment_of : Piece → Segment
segment_of x = record { origin = x.origin; blocks = x.chain.blocks; len = x.chain.len }

-- the blocks of some pieces, as often as they stand there
abbrev pub placed_in : List Piece → List ℕ
placed_in pieces = flat_map (λ (x : Piece). x.chain.blocks) pieces

-- at how many places of a tenant's pieces a block stands
abbrev pub places_on : ℕ → StoredTenant → ℕ
places_on b stored_tenant = places_of b (placed_in (pieces_of stored_tenant))

-- what a tenant pays, in blocks of a size, by how its pieces are kept
abbrev pub charge_on : ℕ → StoredTenant → ℕ
charge_on size stored_tenant =
    charge_of size stored_tenant.next
    (map {A = Piece} {B = Source} (λ x. record { origin = x.origin; len = x.chain.len }) (pieces_of stored_tenant))

-- some, or none
abbrev pub some_of : ℕ → ℕ
some_of n = if n == 0 then 0 else 1

-- two pieces of one tenant: those of one origin have the same blocks, those of different origins none in common
pub record Agree (x y : Piece) : Type 0 where
  pub blocks : x.origin ≡ y.origin → x.chain.blocks ≡ y.chain.blocks
  pub len : x.origin ≡ y.origin → x.chain.len ≡ y.chain.len
  pub apart : (b : ℕ) → 0 < places_of b x.chain.blocks → 0 < places_of b y.chain.blocks → x.origin ≡ y.origin

-- a piece has the blocks that its bytes take, none of them twice, and was sent to an upload that was given
pub record IsPiece (size next : ℕ) (x : Piece) : Type 0 where
  pub given : x.origin < next
  pub blocks : length x.chain.blocks ≡ blocks_for size x.chain.len
  pub once : StandsOnce x.chain.blocks

-- the pieces of a tenant
pub record ArePieces (size next : ℕ) (pieces : List Piece) : Type 0 where
  pub each : (x : Piece) → Contains pieces x → IsPiece size next x
  pub agree : (x y : Piece) → Contains pieces x → Contains pieces y → Agree x y

-- What is kept of the blocks: each tenant's pieces are as they should be, each block is held as often as it
-- stands in them, so it is free exactly where it stands in none, and no block is two tenants'.
pub record HoldsPieces (p : Blocks) (stored_tenants : List StoredTenant) : Type 0 where
  pub pieces : All (λ s. ArePieces p.block_size s.next (pieces_of s)) stored_tenants
  pub counts : (b : ℕ) → count_at p b ≡ sum_by (places_on b) stored_tenants
  pub apart : (b : ℕ) → sum_by (λ s. some_of (places_on b s)) stored_tenants ≤ 1
