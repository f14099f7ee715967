-- An upload of a tenant as a piece of a snapshot, by how it is kept.
use Rattle.std.specs.Prelude.{◌≡◌, ℕ, ◌<◌, Option, All, IfSome, get_or, length, option_map, take}
use Rattle.std.specs.Borrow.{Bor}
use Rattle.block_pool.specs.Blocks.{Blocks}
use Rattle.block_bodies.specs.Bodies.{Chain, IsBodyOf, content_of}
use Rattle.upload_book.specs.BlockStore.{no_upload}
use Rattle.upload_book.specs.declared.stored_tenant.StoredTenant.{StoredTenant as KeptTenant}
use Rattle.upload_book.specs.inside.Kept.{stored_tenant_of, AreInOrder}
use Rattle.upload_book.specs.inside.Pieces.{AreBodies, HasOwnPiece, ReadsWhole}
use Rattle.upload_book.specs.snapshot.Restored.{RestoredSegment, RestoredUpload}
use Rattle.upload_book.specs.snapshot.Snapshot.{upload_kept}
use Rattle.upload_book.specs.Stored.{StoredTenant, entry_of, part_of, pieces_of}

-- the upload at a place of a tenant's part, behind those before it
abbrev pub kept_at : Blocks → StoredTenant → ℕ → RestoredUpload
kept_at p t place = upload_kept (take place (part_of p t).uploads) (get_or (part_of p t).uploads place (entry_of p no_upload))

-- there is one, the part is in order, and its pieces are bodies of the pool
pub record IsKeptAt (p : Blocks) (t : KeptTenant) (place : ℕ) : Type 0 where
  pub there : place < length (stored_tenant_of t).uploads
  pub order : AreInOrder (stored_tenant_of t)
  pub own : All HasOwnPiece (stored_tenant_of t).uploads
  pub bodies : AreBodies p (pieces_of (stored_tenant_of t))
  pub reads : ReadsWhole p (pieces_of (stored_tenant_of t))

-- a segment whose bytes lie in a body, where it brings them
abbrev pub segment_at : Blocks → ℕ → Option (Bor Chain) → RestoredSegment
segment_at p origin chain = record { origin = origin; bytes = option_map (λ (c : Bor Chain). content_of p c.now) chain }

-- the body is one of the pool, and as many bytes are read of it as it has
abbrev pub IsSegmentAt : Blocks → Option (Bor Chain) → Type 0
IsSegmentAt p chain = IfSome chain (λ (c : Bor Chain). IsBodyOf p c.now × (length (content_of p c.now) ≡ c.now.len))
