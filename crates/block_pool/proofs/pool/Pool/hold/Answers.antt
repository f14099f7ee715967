use Rattle.std.proofs.Common.{◌≡◌, arith}
use Rattle.block_pool.specs.Blocks.{count_at}
use Rattle.block_pool.proofs.FreeLists.{IsStored-held}
use Rattle.block_pool.proofs.Stored.{taken-below, taken-held, taken-read, taken-hold}
use Rattle.block_pool.proofs.pool.Pool.hold.Goals as goal

pub index_mut-requires : goal.index_mut-requires
index_mut-requires c = omega (arith, c.number-place.ensures.value, taken-below c.self.inside.block_bytes c.self.inside.blocks c.self.inside.counts.items c.self.inside.bytes.items c.args.self.now c.self.view_is c.args.block c.requires.is_held)

pub overflow_add-index_mut : goal.overflow_add-index_mut
overflow_add-index_mut c =
    let read = rw c.number-place.ensures.value at c.index_mut.ensures.value in
    let count : c.index_mut.result.now ≡ count_at c.args.self.now c.args.block = taken-read c.self.inside.block_bytes c.self.inside.blocks c.self.inside.counts.items c.self.inside.bytes.items c.args.self.now c.self.view_is c.args.block _ c.requires.is_held read in
    omega (arith, c.requires.fits)

pub invariant_of-self : goal.invariant_of-self
invariant_of-self c =
    rw c.number-place.ensures.value
    (IsStored-held c.self.inside.block_bytes c.self.inside.blocks c.self.inside.counts.items c.self.inside.bytes.items c.self.inside.free.items _ _ _ c.args.block _
    c.self.invariant (taken-held c.self.inside.block_bytes c.self.inside.blocks c.self.inside.counts.items c.self.inside.bytes.items c.args.self.now c.self.view_is c.args.block c.requires.is_held) (omega arith))

pub returns : goal.returns
returns c =
    let read = rw c.number-place.ensures.value at c.index_mut.ensures.value in
    rw c.number-place.ensures.value (taken-hold c.self.inside.block_bytes c.self.inside.blocks c.self.inside.counts.items c.self.inside.bytes.items c.args.self.now c.self.view_is c.args.block _ c.requires.is_held read)
