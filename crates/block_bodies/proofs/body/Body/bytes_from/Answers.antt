use Rattle.std.proofs.Common.{◌≡◌, ℕ, ◌+◌, ◌-◌, ◌*◌, ◌/◌, ◌%◌, ◌<◌, ◌≤◌, length, get_or, take, drop, min, vec_capacity, refl, inl, inr, sym, subst, ap, ◌∙◌, arith}
use Rattle.std.proofs.lemmas.Bool.{cases_lt}
use Rattle.std.proofs.lemmas.List.{get_or_default, get_or_read}
use Rattle.std.proofs.lemmas.Nat.{div-add-mod'}
use Rattle.std.proofs.Math.Nat.{mod-le, mod-lt}
use Rattle.block_pool.specs.Blocks.{Blocks, IsPool, bytes_at}
use Rattle.block_bodies.specs.Bodies.{Chain, IsBodyOf, blocks_for, content_of}
use Rattle.block_bodies.proofs.BlocksFor.{blocks_for-suffice, times_le}
use Rattle.block_bodies.proofs.Reading.{from-offset, held-at}
use Rattle.block_bodies.proofs.body.Body.bytes_from.Goals as goal

-- the block of an offset within a body is one of its blocks
block-there : (size len blocks offset : ℕ) → 0 < size → blocks ≡ blocks_for size len → offset < len → offset / size < blocks
block-there size len blocks offset some is within =
    least (offset / size) blocks size offset (offset % size) (div-add-mod' offset size) (omega (arith, blocks_for-suffice size len some, ap (λ (n : ℕ). n * size) is))
  where
    least : (k blocks size offset w : ℕ) → k * size + w ≡ offset → offset < blocks * size → k < blocks
    least k blocks size offset w at within = elim (cases_lt k blocks) [
      | inl less ↦ less
      | inr most ↦ absurd (omega (arith, at, times_le size blocks k most))
    ]

-- the block that was read
read : (p : Blocks) (x : Chain) (size offset b : ℕ) → size ≡ p.block_size → IsPool p → IsBodyOf p x → offset < x.len → b ≡ get_or x.blocks (offset / size) b → (offset / size < length x.blocks) × (b ≡ get_or x.blocks (offset / size) 0)
read p x size offset b at pool body within is =
    let there : offset / size < length x.blocks = block-there size x.len (length x.blocks) offset (omega (arith, at, pool.limits.some_bytes)) (body.blocks ∙ ap (λ (n : ℕ). blocks_for n x.len) (sym at)) within in
    (there, get_or_read x.blocks (offset / size) b there is 0)

pub bytes-requires : goal.bytes-requires
bytes-requires c =
    let p = c.args.pool.now in
    let x : Chain = record { blocks = c.self.inside.blocks.items; len = c.self.inside.len; room = vec_capacity c.self.inside.blocks } in
    let body : IsBodyOf p x = subst (IsBodyOf p) (sym c.self.view_is) c.requires in
    let found = read p x c.from-size.result c.args.offset c.index-block.result.now (c.from-size.ensures ∙ c.block_size.ensures.value) c.block_size.ensures.pool body c.if-offset-self.false c.index-block.ensures in
    held-at p x.blocks x.blocks (c.args.offset / c.from-size.result) c.index-block.result.now body.held refl found.0 c.index-block.ensures

-- each block of a body is whole
whole : (p : Blocks) (x : Chain) (size i : ℕ) → size ≡ p.block_size → IsPool p → IsBodyOf p x → i < length x.blocks → length (bytes_at p (get_or x.blocks i 0)) ≡ size
whole p x size i at pool body within =
    let b : ℕ = get_or x.blocks i 0 in
    pool.whole b (held-at p x.blocks x.blocks i b body.held refl within (get_or_default x.blocks i 0 b within)) ∙ sym at

-- what is lent of the block lies within it and the body
part-within : (len offset size w end : ℕ) → w < size → w ≤ offset → offset < len → end ≡ min (len - (offset - w)) size → (w + (end - w) ≤ size) × (offset + (end - w) ≤ len)
part-within len offset size w end less most within is = (omega (arith, is), omega (arith, is))

pub returns-clause-bytes : goal.returns-clause-bytes
returns-clause-bytes c =
    let p = c.args.pool.now in
    let x : Chain = record { blocks = c.self.inside.blocks.items; len = c.self.inside.len; room = vec_capacity c.self.inside.blocks } in
    let body : IsBodyOf p x = subst (IsBodyOf p) (sym c.self.view_is) c.requires in
    let size = c.from-size.result in
    let at : size ≡ p.block_size = c.from-size.ensures ∙ c.block_size.ensures.value in
    let w = c.args.offset % size in
    let found = read p x size c.args.offset c.index-block.result.now at c.block_size.ensures.pool body c.if-offset-self.false c.index-block.ensures in
    let fits = part-within x.len c.args.offset size w c.min-end.result (mod-lt c.args.offset (omega (arith, at, c.block_size.ensures.pool.limits.some_bytes))) (mod-le c.args.offset size) c.if-offset-self.false c.min-end.ensures in
    let bytes : c.bytes.result.now ≡ bytes_at p (get_or x.blocks (c.args.offset / size) 0) = c.bytes.ensures.value ∙ ap (bytes_at p) found.1 in
    let lent : take (c.min-end.result - w) (drop w (bytes_at p (get_or x.blocks (c.args.offset / size) 0))) ≡ take (length (take (c.min-end.result - w) (drop w (bytes_at p (get_or x.blocks (c.args.offset / size) 0))))) (drop c.args.offset (content_of p x)) =
    from-offset p x c.args.offset size (c.args.offset / size) w (c.min-end.result - w) (λ i within. whole p x size i at c.block_size.ensures.pool body within) found.0 (sym (div-add-mod' c.args.offset size)) fits.0 fits.1 in
    rw (bytes, ← c.self.view_is) lent
