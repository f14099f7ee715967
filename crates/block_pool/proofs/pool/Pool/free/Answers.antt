use Rattle.std.proofs.Common.{arith}
use Rattle.block_pool.proofs.FreeLists.{free_blocks-few}
use Rattle.block_pool.proofs.Stored.{free-all}
use Rattle.block_pool.proofs.pool.Pool.free.Goals as goal

pub overflow_add-result : goal.overflow_add-result
overflow_add-result c = omega (arith, c.self.invariant.few, c.self.invariant.limits.few_blocks, c.self.invariant.free_list.many, free_blocks-few c.self.inside.counts.items, c.len.ensures, c.len-2.ensures)

pub overflow_cast-result : goal.overflow_cast-result
overflow_cast-result c = omega (arith, c.self.invariant.few, c.self.invariant.limits.few_blocks, c.self.invariant.free_list.many, free_blocks-few c.self.inside.counts.items, c.len.ensures, c.len-2.ensures)

pub returns : goal.returns
returns c = omega (arith, c.len.ensures, c.len-2.ensures, c.self.invariant.free_list.many, free-all c.self.inside.block_bytes c.self.inside.blocks c.self.inside.counts.items c.self.inside.bytes.items c.args.self.now c.self.view_is)
