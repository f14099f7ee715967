-- Bodies of bytes that lie in blocks of a pool.
use Rattle.std.specs.Prelude.{◌≡◌, ℕ, ◌+◌, ◌-◌, ◌*◌, ◌<◌, ◌≤◌, List, length, take, slice_index}
use Rattle.std.specs.Int.{div_ceil}
use Rattle.block_pool.specs.Blocks.{Blocks, count_at, free_in, places_of, bytes_of}

-- the blocks of a body in their order, how many bytes it has, and how many blocks its list has room for
pub record Chain : Type 0 where
  pub blocks : List ℕ
  pub len : ℕ
  pub room : ℕ

-- how many blocks so many bytes take, in blocks of a size: the least number that has room for them
abbrev pub blocks_for : ℕ → ℕ → ℕ
blocks_for size n = div_ceil n size

-- the bytes of a body: those of its blocks, joined, up to its length
abbrev pub content_of : Blocks → Chain → List ℕ
content_of p x = take x.len (bytes_of p x.blocks)

-- each block is held at least as often as it stands in the list
pub record IsHeld (p : Blocks) (list : List ℕ) : Type 0 where
  pub each : (b : ℕ) → places_of b list ≤ count_at p b

-- each block of the list is held, and there are as many as the bytes take
pub record IsBodyOf (p : Blocks) (x : Chain) : Type 0 where
  pub held : IsHeld p x.blocks
  pub blocks : length x.blocks ≡ blocks_for p.block_size x.len

-- a last block that is not full is held once, so that nobody else sees what is written to its rest
pub record IsLastOwn (p : Blocks) (x : Chain) : Type 0 where
  pub own : x.len < length x.blocks * p.block_size → count_at p (slice_index x.blocks (length x.blocks - 1)) ≡ 1

-- how many blocks the body takes with so many more bytes
abbrev pub blocks_with : Blocks → Chain → ℕ → ℕ
blocks_with p x more = blocks_for p.block_size (x.len + more)

-- the list and the pool have room for so many more bytes
pub record HasRoom (p : Blocks) (x : Chain) (more : ℕ) : Type 0 where
  pub listed : blocks_with p x more ≤ x.room
  pub free : blocks_with p x more ≤ length x.blocks + free_in p

-- no block stands in the list twice
pub record StandsOnce (list : List ℕ) : Type 0 where
  pub once : (b : ℕ) → places_of b list ≤ 1
