-- What calls on bodies change in a pool. How the count of a block changes is said by the number of places
-- at which it stands in a list.
use Rattle.std.specs.Prelude.{◌≡◌, ℕ, ◌+◌, ◌^◌, ◌<◌, ◌==◌, ◌&&◌, nat_lt, List, ◌++◌, length, take, count_by}
use Rattle.std.specs.List.{range_with_len}
use Rattle.block_pool.specs.Blocks.{Blocks, size_of, count_at, bytes_at, free_in, places_of}
use Rattle.block_bodies.specs.Bodies.{Chain, IsBodyOf, IsLastOwn, content_of}

-- the pool has as many blocks as before, of the same size
pub record SameSizes (p q : Blocks) : Type 0 where
  pub blocks : size_of q ≡ size_of p
  pub bytes : q.block_size ≡ p.block_size

-- bytes are put at the end of a body: its blocks stay in front, new blocks were free, and a block that
-- somebody else holds too keeps its bytes
pub record Puts (p : Blocks) (x : Chain) (bytes : List ℕ) (q : Blocks) (y : Chain) : Type 0 where
  pub sizes : SameSizes p q
  pub body : IsBodyOf q y
  pub len : y.len ≡ x.len + length bytes
  pub content : content_of q y ≡ content_of p x ++ bytes
  pub front : take (length x.blocks) y.blocks ≡ x.blocks
  pub counts : (b : ℕ) → count_at q b + places_of b x.blocks ≡ count_at p b + places_of b y.blocks
  pub others : (b : ℕ) → places_of b x.blocks < count_at p b → bytes_at q b ≡ bytes_at p b
  pub fresh : (b : ℕ) → places_of b x.blocks < places_of b y.blocks → count_at p b ≡ 0
  pub free : free_in q + length y.blocks ≡ free_in p + length x.blocks
  pub last : IsLastOwn p x → IsLastOwn q y

-- each block of a list is held, and may be held once more for each of its places
pub record MayHold (p : Blocks) (list : List ℕ) : Type 0 where
  pub held : (b : ℕ) → 0 < places_of b list → 0 < count_at p b
  pub fits : (b : ℕ) → 0 < places_of b list → count_at p b + places_of b list < 2 ^ 64

-- each block of a list is held once more for each of its places; every byte stays
pub record Holds (p : Blocks) (list : List ℕ) (q : Blocks) : Type 0 where
  pub sizes : SameSizes p q
  pub counts : (b : ℕ) → count_at q b ≡ count_at p b + places_of b list
  pub bytes : (b : ℕ) → bytes_at q b ≡ bytes_at p b
  pub free : free_in q ≡ free_in p

-- how many blocks become free where a list is given back: those that are held, and as often as they stand
-- in the list, so by nobody else
abbrev pub freed_by : Blocks → List ℕ → ℕ
freed_by p list =
    count_by (λ b. nat_lt 0 (count_at p b) && count_at p b == places_of b list) (range_with_len 0 (size_of p))

-- each block of a list is held once less for each of its places; those that nobody else holds become free,
-- and the others keep their bytes
pub record GivesBack (p : Blocks) (list : List ℕ) (freed : ℕ) (q : Blocks) : Type 0 where
  pub sizes : SameSizes p q
  pub counts : (b : ℕ) → count_at q b + places_of b list ≡ count_at p b
  pub bytes : (b : ℕ) → 0 < count_at q b → bytes_at q b ≡ bytes_at p b
  pub number : freed ≡ freed_by p list
  pub free : free_in q ≡ free_in p + freed
