use Rattle.std.proofs.Common.{arith}
use Rattle.block_pool.proofs.FreeLists.{stored-none}
use Rattle.block_pool.proofs.Stored.{shown-none}
use Rattle.block_pool.proofs.pool.Pool.new.Goals as goal

pub overflow_mul-blocks : goal.overflow_mul-blocks
overflow_mul-blocks c = omega (arith, c.requires.small_pool)

pub invariant_of-result : goal.invariant_of-result
invariant_of-result c =
    rw (c.in_ok-with_capacity.ensures.items, c.in_ok-with_capacity-2.ensures.items, c.in_ok-with_capacity-3.ensures.items)
    (stored-none c.args.block_size c.args.blocks _ _ _ c.requires c.in_ok-with_capacity.ensures.capacity c.in_ok-with_capacity-2.ensures.capacity c.in_ok-with_capacity-3.ensures.capacity)

pub returns : goal.returns
returns c = rw (c.in_ok-with_capacity.ensures.items, c.in_ok-with_capacity-2.ensures.items) (shown-none c.args.block_size c.args.blocks)
