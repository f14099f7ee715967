-- What a tenant will pay once uploads have ended, by how their pieces are kept now.
use Rattle.std.specs.Prelude.{◌≡◌, ℕ, ◌+◌, ◌<◌, ◌^◌, max, Bool, true, not, List, ◌++◌, All, Contains, drop, flat_map, map, take, Option, Some, None}
use Rattle.std.specs.List.{filter}
use Rattle.block_pool.specs.Blocks.{Blocks, count_at}
use Rattle.block_bodies.specs.Bodies.{StandsOnce}
use Rattle.upload_book.specs.Charge.{Source, charge_of, price}
use Rattle.upload_book.specs.declared.head_row.Kind.{Kind}
use Rattle.upload_book.specs.declared.head_row.Kind.TheVariants.{Plain, Partial, Final}
use Rattle.upload_book.specs.declared.pieces.Piece.{Piece}
use Rattle.upload_book.specs.declared.stored_tenant.StoredTenant.{StoredTenant as KeptTenant}
use Rattle.upload_book.specs.Expiry.{has_expired}
use Rattle.upload_book.specs.inside.Ids.{AreBelow}
use Rattle.upload_book.specs.inside.Kept.{stored_tenant_of}
use Rattle.upload_book.specs.inside.Pieces.{HasOwnPiece}
use Rattle.upload_book.specs.Stored.{Agree, StoredTenant, StoredUpload, pieces_of, places_on}
use Rattle.upload_book.specs.TenantBook.{Entry}

-- pieces as they are paid
abbrev pub sources_in : List Piece → List Source
sources_in pieces = map {A = Piece} {B = Source} (λ x. record { origin = x.origin; len = x.chain.len }) pieces

-- the pieces of uploads as they are paid
abbrev pub sources_kept : List (Entry StoredUpload) → List Source
sources_kept entries = sources_in (flat_map (λ (e : Entry StoredUpload). e.kept.pieces) entries)

-- what uploads with ids below an end cost, in blocks of a size
abbrev pub cost_of : ℕ → ℕ → List (Entry StoredUpload) → ℕ
cost_of size next entries = charge_of size next (sources_kept entries)

-- an upload with this end is left by a sweep at a moment; where there is no sweep, each is
abbrev pub is_left : Option ℕ → Option ℕ → Bool
is_left None expires = true
is_left (Some now) expires = not (has_expired now expires)

-- an upload of this kind and with this end is left, if it is a final one
abbrev pub is_left_if_final : Option ℕ → Kind → Option ℕ → Bool
is_left_if_final swept Plain expires = true
is_left_if_final swept Partial expires = true
is_left_if_final swept Final expires = is_left swept expires

-- all final uploads are left
abbrev pub AreFinalsLeft : Option ℕ → List (Entry StoredUpload) → Type 0
AreFinalsLeft swept entries = All (λ e. is_left_if_final swept e.kept.kind e.kept.expires ≡ true) entries

-- the uploads that are left
abbrev pub left : Option ℕ → List (Entry StoredUpload) → List (Entry StoredUpload)
left swept entries = filter (λ e. is_left swept e.kept.expires) entries

-- the uploads where a sweep came up to a place,
abbrev pub left_to : Option ℕ → List (Entry StoredUpload) → ℕ → List (Entry StoredUpload)
left_to swept entries place = left swept (take place entries) ++ drop place entries

-- and these without the one at the place
abbrev pub left_beside : Option ℕ → List (Entry StoredUpload) → ℕ → List (Entry StoredUpload)
left_beside swept entries place = left swept (take place entries) ++ drop (place + 1) entries

-- a part knows what its tenant pays, which is a number, and each of its pieces was sent to an upload that was given
pub record IsPaid (size : ℕ) (t : KeptTenant) : Type 0 where
  pub charge : t.charge ≡ cost_of size t.next t.uploads.items
  pub fits : t.charge < 2 ^ 64
  pub given : (x : Piece) → Contains (pieces_of (stored_tenant_of t)) x → x.origin < t.next

-- The blocks of a tenant's pieces are counted as often as they stand in them, and stand in none twice. Pieces of one origin have
-- the same blocks. Each upload that is not final has its own piece, and uploads stand by their ids.
pub record AreCounted (p : Blocks) (t : StoredTenant) : Type 0 where
  pub counts : (b : ℕ) → 0 < places_on b t → count_at p b ≡ places_on b t
  pub once : (x : Piece) → Contains (pieces_of t) x → StandsOnce x.chain.blocks
  pub agree : (x y : Piece) → Contains (pieces_of t) x → Contains (pieces_of t) y → Agree x y
  pub own : All HasOwnPiece t.uploads
  pub ids : AreBelow t.next t.uploads

-- what an origin costs by the other pieces: those of the same upload behind a place, and those of the uploads beside
abbrev pub price_elsewhere : ℕ → List Piece → ℕ → List Source → ℕ → ℕ
price_elsewhere size pieces place others origin = max (price size (sources_in (drop (place + 1) pieces)) origin) (price size others origin)
