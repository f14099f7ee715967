use Rattle.std.proofs.Common.{◌≡◌, get_or, arith, ◌∙◌, rules}
use Rattle.block_pool.specs.Blocks.{count_at}
use Rattle.block_pool.proofs.FreeLists.{IsStored-held, IsFreeList-release, free_blocks-below, stored_after}
use Rattle.block_pool.proofs.Stored.{taken-below, taken-count, taken-held, taken-read, taken-release}
use Rattle.block_pool.proofs.pool.Pool.release.Goals.{then-left-eq0, else-left-eq0}
use Rattle.block_pool.proofs.pool.Pool.release.Goals as goal

pub index-requires : goal.index-requires
index-requires c = omega (arith, c.number-place.ensures.value, taken-below c.self.inside.block_bytes c.self.inside.blocks c.self.inside.counts.items c.self.inside.bytes.items c.args.self.now c.self.view_is c.args.block c.requires)

pub index_mut-requires : goal.index_mut-requires
index_mut-requires c = omega (arith, c.number-place.ensures.value, taken-below c.self.inside.block_bytes c.self.inside.blocks c.self.inside.counts.items c.self.inside.bytes.items c.args.self.now c.self.view_is c.args.block c.requires)

pub push_reserved-requires : goal.push_reserved-requires
push_reserved-requires c =
    let held = taken-held c.self.inside.block_bytes c.self.inside.blocks c.self.inside.counts.items c.self.inside.bytes.items c.args.self.now c.self.view_is c.args.block c.requires in
    omega (arith, c.self.invariant.free_list.many, c.self.invariant.few, c.self.invariant.free_fit, free_blocks-below c.self.inside.counts.items c.args.block held)

pub overflow_sub-left : goal.overflow_sub-left
overflow_sub-left c =
    let read = rw c.number-place.ensures.value at c.index.ensures in
    let count : c.index.result.now ≡ count_at c.args.self.now c.args.block = taken-read c.self.inside.block_bytes c.self.inside.blocks c.self.inside.counts.items c.self.inside.bytes.items c.args.self.now c.self.view_is c.args.block _ c.requires read in
    omega (arith, c.requires)

pub invariant_of-self : goal.invariant_of-self
invariant_of-self c =
    let read = rw c.number-place.ensures.value at c.index.ensures in
    let count : c.index.result.now ≡ count_at c.args.self.now c.args.block = taken-read c.self.inside.block_bytes c.self.inside.blocks c.self.inside.counts.items c.self.inside.bytes.items c.args.self.now c.self.view_is c.args.block _ c.requires read in
    let one : get_or c.self.inside.counts.items c.args.block 0 ≡ 1 = omega (arith, taken-count c.self.inside.block_bytes c.self.inside.blocks c.self.inside.counts.items c.self.inside.bytes.items c.args.self.now c.self.view_is c.args.block, c.if-left-eq0.true) in
    rw (c.number-place.ensures.value, c.if-left-eq0.true, c.push_reserved.ensures.items)
    (stored_after c.self.inside.block_bytes c.self.inside.blocks c.self.inside.counts.items c.self.inside.bytes.items c.self.inside.free.items _ _ _ _ _ c.args.block 0
    c.self.invariant (omega (arith, c.push_reserved.ensures.capacity)) (IsFreeList-release c.self.inside.counts.items c.self.inside.free.items c.args.block c.self.invariant.free_list one))

pub invariant_of-self-else-left-eq0 : goal.invariant_of-self-else-left-eq0
invariant_of-self-else-left-eq0 c =
    rw c.number-place.ensures.value
    (IsStored-held c.self.inside.block_bytes c.self.inside.blocks c.self.inside.counts.items c.self.inside.bytes.items c.self.inside.free.items _ _ _ c.args.block _
    c.self.invariant (taken-held c.self.inside.block_bytes c.self.inside.blocks c.self.inside.counts.items c.self.inside.bytes.items c.args.self.now c.self.view_is c.args.block c.requires) (omega arith))

pub returns-clause-freed : goal.returns-clause-freed
returns-clause-freed c =
    let read = rw c.number-place.ensures.value at c.index.ensures in
    let count : c.index.result.now ≡ count_at c.args.self.now c.args.block = taken-read c.self.inside.block_bytes c.self.inside.blocks c.self.inside.counts.items c.self.inside.bytes.items c.args.self.now c.self.view_is c.args.block _ c.requires read in
    search (rules, arith)

pub returns-clause-after : goal.returns-clause-after
returns-clause-after c =
    let read = rw c.number-place.ensures.value at c.index.ensures in
    let after = taken-release c.self.inside.block_bytes c.self.inside.blocks c.self.inside.counts.items c.self.inside.bytes.items c.args.self.now c.self.view_is c.args.block c.index.result.now c.requires read in
    elim c.if-left-eq0.branch [
      | then-left-eq0 w ↦ w.self-is ∙ rw c.number-place.ensures.value after
      | else-left-eq0 w ↦ w.self-is ∙ rw c.number-place.ensures.value after
    ]
