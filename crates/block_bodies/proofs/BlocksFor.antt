-- How many blocks so many bytes take.
use Rattle.std.proofs.Common.{◌≡◌, ℕ, zero, suc, ◌+◌, ◌*◌, ◌-◌, ◌/◌, ◌%◌, ◌<◌, ◌≤◌, refl, sym, ⊎_elim, arith}
use Rattle.std.proofs.lemmas.Grind.{div_ceil_times, common_steps}
use Rattle.std.proofs.lemmas.Bool.{cases_lt}
use Rattle.block_bodies.specs.Bodies.{blocks_for}

pub times_le : (size a b : ℕ) → a ≤ b → a * size ≤ b * size
times_le size a b h = grind (arith, common_steps)

-- the blocks suffice, and one fewer would not
pub blocks_for-suffice : (size n : ℕ) → 0 < size → n ≤ blocks_for size n * size
blocks_for-suffice size n h = (div_ceil_times n size h).0

pub blocks_for-tight : (size n : ℕ) → 0 < size → blocks_for size n * size < n + size
blocks_for-tight size n h = (div_ceil_times n size h).1

-- a number whose blocks suffice is no less
pub blocks_for-least : (size n k : ℕ) → 0 < size → n ≤ k * size → blocks_for size n ≤ k
blocks_for-least size n k h enough = ⊎_elim
    (λ (l : k < blocks_for size n).
    let more : (k + 1) * size ≤ blocks_for size n * size = times_le size (k + 1) (blocks_for size n) (omega arith) in
    absurd (omega (arith, blocks_for-tight size n h)))
    (λ le. le)
    (cases_lt k (blocks_for size n))

-- a number whose blocks are tight is no more
pub blocks_for-most : (size n k : ℕ) → 0 < size → k * size < n + size → k ≤ blocks_for size n
blocks_for-most size n k h tight = ⊎_elim
    (λ (l : blocks_for size n < k).
    let more : (blocks_for size n + 1) * size ≤ k * size = times_le size (blocks_for size n + 1) k (omega arith) in
    absurd (omega (arith, blocks_for-suffice size n h)))
    (λ le. le)
    (cases_lt (blocks_for size n) k)

pub blocks_for-is : (size n k : ℕ) → 0 < size → n ≤ k * size → k * size < n + size → k ≡ blocks_for size n
blocks_for-is size n k h enough tight = omega (arith, blocks_for-least size n k h enough, blocks_for-most size n k h tight)

-- bytes beyond the last block's rest take blocks of their own
after_rest : (size len blocks more rest over k : ℕ) → 0 < size → len + rest ≡ blocks * size → rest < size → over ≡ more - rest → k ≡ blocks_for size over → blocks_for size (len + more) ≡ blocks + k
after_rest size len blocks more rest over k h r small o e =
    let enough : over ≤ k * size = rw e (blocks_for-suffice size over h) in
    let tight : k * size < over + size = rw e (blocks_for-tight size over h) in
    let both : (blocks + k) * size ≡ blocks * size + k * size = omega arith in
    ⊎_elim
    (λ (l : rest < more). sym (blocks_for-is size (len + more) (blocks + k) h (omega arith) (omega arith)))
    (λ (l : more ≤ rest).
    let none : k ≡ 0 = omega (arith, blocks_for-least size over 0 h (omega arith)) in
    let no_bytes : k * size ≡ 0 = rw none (omega arith) in
    sym (blocks_for-is size (len + more) (blocks + k) h (omega arith) (omega arith)))
    (cases_lt rest more)

pub blocks_for-end : (size len blocks more : ℕ) → 0 < size → blocks ≡ blocks_for size len → blocks_for size (len + more) ≡ blocks + blocks_for size (more - (blocks * size - len))
blocks_for-end size len blocks more h e =
    let enough : len ≤ blocks * size = rw e (blocks_for-suffice size len h) in
    let tight : blocks * size < len + size = rw e (blocks_for-tight size len h) in
    after_rest size len blocks more (blocks * size - len) (more - (blocks * size - len)) (blocks_for size (more - (blocks * size - len))) h
    (omega arith) (omega arith) refl refl

-- where the last block ends, by the bytes in it
pub end_whole : (size len blocks : ℕ) → 0 < size → blocks ≡ blocks_for size len → len % size ≡ 0 → len ≡ blocks * size
end_whole size len blocks h e whole =
    let d : size * (len / size) + len % size ≡ len = omega arith in
    let k : len / size ≡ blocks_for size len = blocks_for-is size len (len / size) h (omega arith) (omega arith) in
    rw (e, ← k) (omega arith)

-- bytes beyond full blocks take one block at least
pub more_blocks : (size len blocks more : ℕ) → 0 < size → blocks ≡ blocks_for size len → len % size ≡ 0 → 0 < more → blocks < blocks_for size (len + more)
more_blocks size len blocks more h e whole some =
    let full : len ≡ blocks * size = end_whole size len blocks h e whole in
    ⊎_elim
    (λ (l : blocks < blocks_for size (len + more)). l)
    (λ (l : blocks_for size (len + more) ≤ blocks).
    absurd (omega (arith, times_le size (blocks_for size (len + more)) blocks l, blocks_for-suffice size (len + more) h)))
    (cases_lt blocks (blocks_for size (len + more)))

pub end_partial : (size len blocks : ℕ) → 0 < size → blocks ≡ blocks_for size len → 0 < len % size → len + size ≡ blocks * size + len % size
end_partial size len blocks h e partial =
    let d : size * (len / size) + len % size ≡ len = omega arith in
    let r : len % size < size = omega arith in
    let k : len / size + 1 ≡ blocks_for size len = blocks_for-is size len (len / size + 1) h (omega arith) (omega arith) in
    rw (e, ← k) (omega arith)

pub some_blocks : (size len blocks at : ℕ) → len + size ≡ blocks * size + at → at < size → 0 < blocks
some_blocks size len zero at e h = absurd (omega arith)
some_blocks size len (suc n) at e h = omega arith
