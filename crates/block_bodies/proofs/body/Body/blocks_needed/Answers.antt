use Rattle.std.proofs.Common.{◌≡◌, length, arith, rules}
use Rattle.block_bodies.proofs.BlocksFor.{blocks_for-end}
use Rattle.block_bodies.proofs.Putting.{len-fits}
use Rattle.block_bodies.proofs.body.Body.blocks_needed.Goals as goal

pub overflow_mul-rest : goal.overflow_mul-rest
overflow_mul-rest c =
    let body = rw (← c.self.view_is) at c.requires in
    let bound = len-fits c.args.pool.now _ c.block_size.ensures.pool body c.self.invariant in
    let len : c.len.result ≡ length c.self.inside.blocks.items = omega (arith, c.len.ensures) in
    rw (len, c.from-size.ensures, c.block_size.ensures.value) (search (rules, arith, bound.2))

pub returns : goal.returns
returns c =
    let body = rw (← c.self.view_is) at c.requires in
    let end = blocks_for-end c.args.pool.now.block_size c.self.inside.len (length c.self.inside.blocks.items) c.args.more c.block_size.ensures.pool.limits.some_bytes body.blocks in
    let len : c.len.result ≡ length c.self.inside.blocks.items = omega (arith, c.len.ensures) in
    rw (← c.self.view_is, c.div_ceil.ensures, c.saturating_sub.ensures, c.from-size.ensures, c.block_size.ensures.value, len) end
