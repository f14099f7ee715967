use Rattle.block_pool.proofs.Stored.{length-all, shown-size_of, taken-pool}
use Rattle.block_pool.proofs.pool.Pool.size.Goals as goal

pub returns-clause-value : goal.returns-clause-value
returns-clause-value c =
    shown-size_of c.self.inside.block_bytes _ c.self.inside.bytes.items c.args.self.now c.self.inside.blocks c.self.view_is
    (length-all c.self.inside.blocks c.self.inside.counts.items c.self.invariant.few)

pub returns-clause-pool : goal.returns-clause-pool
returns-clause-pool c = taken-pool c.self.inside.block_bytes c.self.inside.blocks c.self.inside.counts.items c.self.inside.bytes.items c.args.self.now c.self.view_is c.self.invariant.few c.self.invariant.limits c.self.invariant.every_byte
