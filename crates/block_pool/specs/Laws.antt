-- Laws above the pool: how many of its blocks are in use.
use Rattle.std.specs.Prelude.{◌≡◌, ℕ, ◌+◌, ◌≤◌, List, length}
use Rattle.block_pool.specs.Blocks.{Blocks, size_of, count_at, free_in, used_in, places_of}

-- each block is free or in use
abbrev pub BlocksAreFreeOrUsed : Type 0
BlocksAreFreeOrUsed = (p : Blocks) → free_in p + used_in p ≡ size_of p

-- where no block is held more often than it stands in a list, the list has each block in use, so no more
-- blocks are in use than the list is long
abbrev pub UsedBlocksAreListed : Type 0
UsedBlocksAreListed =
    (p : Blocks) (list : List ℕ) → ((b : ℕ) → count_at p b ≤ places_of b list) → used_in p ≤ length list
