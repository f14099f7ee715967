-- What a sweep does to a tenant's uploads, by how they are kept.
use Rattle.std.specs.Prelude.{◌≡◌, ℕ, ◌≤◌, ◌-◌, true, List, ◌++◌, Some, flat_map}
use Rattle.std.specs.List.Sorted.{IsPermutation}
use Rattle.block_pool.specs.Blocks.{Blocks, free_in}
use Rattle.block_bodies.specs.Changes.{GivesBack}
use Rattle.upload_book.specs.inside.ChargeAfter.{left}
use Rattle.upload_book.specs.Stored.{StoredUpload, placed_in}
use Rattle.upload_book.specs.TenantBook.{Entry}

-- those that had expired at a moment have ended, and each of their blocks is held once less
pub record EndsExpired (now : ℕ) (p : Blocks) (before : List (Entry StoredUpload)) (q : Blocks) (after : List (Entry StoredUpload)) : Type 0 where
  pub left : after ≡ left (Some now) before
  pub ended : List (Entry StoredUpload)
  pub others : IsPermutation before (after ++ ended)
  pub gives : GivesBack p (placed_in (flat_map (λ (e : Entry StoredUpload). e.kept.pieces) ended)) (free_in q - free_in p) q

-- the texts of an upload lie in a box
abbrev pub IsBoxed : Entry StoredUpload → Type 0
IsBoxed e = e.kept.boxed ≡ true

-- where they do, so many boxes have room in a list
abbrev pub FindsRoom : ℕ → ℕ → Entry StoredUpload → Type 0
FindsRoom boxes room e = IsBoxed e → boxes ≤ room
