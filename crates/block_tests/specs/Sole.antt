-- Pools in which nobody holds a block but the bodies of a test.
use Rattle.std.specs.Prelude.{◌≡◌, ℕ, ◌+◌}
use Rattle.block_pool.specs.Blocks.{Blocks, count_at, places_of}
use Rattle.block_bodies.specs.Bodies.{Chain, IsBodyOf, StandsOnce}

-- one body alone holds blocks of the pool
pub record IsSole (p : Blocks) (x : Chain) : Type 0 where
  pub body : IsBodyOf p x
  pub once : StandsOnce x.blocks
  pub counts : (b : ℕ) → count_at p b ≡ places_of b x.blocks

-- a body and its copy alone hold blocks of the pool
pub record AreSole (p : Blocks) (x copy : Chain) : Type 0 where
  pub body : IsBodyOf p copy
  pub once : StandsOnce copy.blocks
  pub counts : (b : ℕ) → count_at p b ≡ places_of b x.blocks + places_of b copy.blocks
