-- How a pool keeps its blocks: of those that were taken at some time one list of counts, all bytes in one list, and a list that
-- names the free ones. The blocks that were taken at some time come first; of the others nothing is kept.
use Rattle.std.specs.Prelude.{◌≡◌, ℕ, zero, suc, ◌<◌, ◌≤◌, ◌*◌, ◌-◌, ◌==◌, List, [], ◌∷◌, ◌++◌, length, take, drop, replicate, count_by, slice_index, All, if◌then◌else◌}
use Rattle.block_pool.specs.Blocks.{Block, free_block, places_of, IsWithinLimits}

-- a block of this count whose bytes come first in the list
abbrev pub block_of : ℕ → ℕ → List ℕ → Block
block_of size zero bytes = free_block
block_of size (suc n) bytes = record { count = suc n; bytes = take size bytes }

-- the bytes of a block that is taken for the first time: these, and zeros behind them
abbrev pub padded : ℕ → List ℕ → List ℕ
padded size bytes = bytes ++ replicate (size - length bytes) 0

-- the blocks of these counts, their bytes cut from the list in turn
abbrev pub blocks_of : ℕ → List ℕ → List ℕ → List Block
blocks_of size [] bytes = []
blocks_of size (count ∷ counts) bytes = block_of size count bytes ∷ blocks_of size counts (drop size bytes)

-- the counts of so many blocks, of which the first have these, and nobody holds the others
abbrev pub counts_of_all : ℕ → List ℕ → List ℕ
counts_of_all many counts = counts ++ replicate (many - length counts) 0

-- the list names each block of count 0 once, and no other
pub record IsFreeList (counts free : List ℕ) : Type 0 where
  pub within : All (λ b. b < length counts) free
  pub once : (b : ℕ) → b < length counts → places_of b free ≡ (if slice_index counts b == 0 then 1 else 0)
  pub many : length free ≡ count_by (λ c. c == 0) counts

-- the lists belong to one pool of so many blocks, and have room for every block
pub record IsStored (size many : ℕ) (counts bytes free : List ℕ) (counts_room bytes_room free_room : ℕ) : Type 0 where
  pub limits : IsWithinLimits many size
  pub few : length counts ≤ many
  pub every_byte : length bytes ≡ length counts * size
  pub free_list : IsFreeList counts free
  pub counts_fit : many ≤ counts_room
  pub bytes_fit : many * size ≤ bytes_room
  pub free_fit : many ≤ free_room
