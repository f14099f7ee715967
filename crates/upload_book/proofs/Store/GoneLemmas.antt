-- Uploads end: their pieces leave a tenant's part, and their blocks are given back.
use Rattle.std.proofs.Common.{◌≡◌, ℕ, ◌+◌, List, set, refl, sym, subst, arith}
use Rattle.std.specs.List.{Contains}
use Rattle.block_pool.specs.Blocks.{Blocks}
use Rattle.block_bodies.specs.Bodies.{IsHeld, IsBodyOf}
use Rattle.block_bodies.specs.Changes.{GivesBack}
use Rattle.upload_book.specs.declared.pieces.Piece.{Piece}
use Rattle.upload_book.specs.Stored.{StoredTenant, pieces_of, placed_in, charge_on, ArePieces, HoldsPieces}
use Rattle.upload_book.proofs.Charge.InUse.{places-within}
use Rattle.upload_book.proofs.Store.Pieces.{Leaves, ArePieces-copies}
use Rattle.upload_book.proofs.Store.StoredTenants.{IsStoredTenant, IsStoredOn, IsStoredOn-stored_tenant, places_on-held, Changes, HoldsPieces-changed, charge-changed}

-- each piece of a tenant is a body
pub piece-body : (p : Blocks) (old : StoredTenant) (x : Piece) → IsStoredOn p old → Contains (pieces_of old) x → IsBodyOf p x.chain
piece-body p old x on c = record {
  held = record { each = λ b. omega (arith, places-within b (pieces_of old) x c, places_on-held p old on b) };
  blocks = (on.pieces.each x c).blocks;
}

-- the blocks of pieces that leave are held, as often as they stand in them
pub gone-held : (p : Blocks) (old s : StoredTenant) (gone : List Piece) → IsStoredOn p old → Leaves old s gone → IsHeld p (placed_in gone)
gone-held p old s gone on is = record { each = λ b. omega (arith, is.places b, places_on-held p old on b) }

-- what giving them back does to the stored part
pub Changes-gone : (p : Blocks) (old s : StoredTenant) (gone : List Piece) (freed : ℕ) (q : Blocks) → IsStoredOn p old → Leaves old s gone → GivesBack p (placed_in gone) freed q → Changes p old q s
Changes-gone p old s gone freed q on is g = record {
  sizes = g.sizes;
  pieces =
      subst (λ size. ArePieces size s.next (pieces_of s)) (sym g.sizes.bytes)
      (ArePieces-copies p.block_size old.next s.next (pieces_of old) (pieces_of s) on.pieces (omega (arith, is.next)) (λ x c. (x, is.stays x c, refl)));
  counts = λ b. omega (arith, g.counts b, is.places b);
  fresh = λ b some none. absurd (omega (arith, is.places b));
}

-- the stored book without them
pub HoldsPieces-gone : (p : Blocks) (stored_tenants : List StoredTenant) (t : ℕ) (old s : StoredTenant) (gone : List Piece) (freed : ℕ) (q : Blocks) → HoldsPieces p stored_tenants → IsStoredTenant stored_tenants t old → Leaves old s gone → GivesBack p (placed_in gone) freed q
    → HoldsPieces q (set stored_tenants t s)
HoldsPieces-gone p stored_tenants t old s gone freed q kept stored_tenant is g =
    HoldsPieces-changed p stored_tenants t old q s kept stored_tenant (Changes-gone p old s gone freed q (IsStoredOn-stored_tenant p stored_tenants t old kept stored_tenant) is g)

-- the tenant pays for as many blocks less as became free
pub gone-charge : (p : Blocks) (stored_tenants : List StoredTenant) (t : ℕ) (old s : StoredTenant) (gone : List Piece) (freed : ℕ) (q : Blocks) → HoldsPieces p stored_tenants → IsStoredTenant stored_tenants t old → Leaves old s gone → GivesBack p (placed_in gone) freed q
    → charge_on p.block_size s + freed ≡ charge_on p.block_size old
gone-charge p stored_tenants t old s gone freed q kept stored_tenant is g =
    let change : Changes p old q s = Changes-gone p old s gone freed q (IsStoredOn-stored_tenant p stored_tenants t old kept stored_tenant) is g in
    less _ _ _ _ _ (charge-changed p stored_tenants t old q s kept stored_tenant change) g.free
  where
    less : (f g a b freed : ℕ) → g + b ≡ f + a → g ≡ f + freed → b + freed ≡ a
    less f g a b freed change free = omega arith
