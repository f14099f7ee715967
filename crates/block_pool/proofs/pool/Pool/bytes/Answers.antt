use Rattle.std.proofs.Common.{arith, rules}
use Rattle.block_pool.proofs.Stored.{shown-size, taken-bytes, taken-fits}
use Rattle.block_pool.proofs.pool.Pool.bytes.Goals as goal

pub slice_bounds-result-end : goal.slice_bounds-result-end
slice_bounds-result-end c =
    let size = shown-size c.self.inside.block_bytes _ c.self.inside.bytes.items c.args.self.now c.block_size-size.result c.self.view_is c.block_size-size.ensures.value in
    let fits = taken-fits c.self.inside.block_bytes c.self.inside.blocks c.self.inside.counts.items c.self.inside.bytes.items c.args.self.now c.self.view_is c.self.invariant.every_byte c.args.block c.requires in
    rw (c.number.ensures.value, size) (search (rules, arith))

pub returns-clause-value : goal.returns-clause-value
returns-clause-value c =
    let size = shown-size c.self.inside.block_bytes _ c.self.inside.bytes.items c.args.self.now c.block_size-size.result c.self.view_is c.block_size-size.ensures.value in
    rw (c.deref.ensures.value, c.number.ensures.value, size) (taken-bytes c.self.inside.block_bytes c.self.inside.blocks c.self.inside.counts.items c.self.inside.bytes.items c.args.self.now c.self.view_is c.args.block c.requires)
