use Rattle.block_pool.proofs.Stored.{taken-pool}
use Rattle.block_pool.proofs.pool.Pool.block_size.Goals as goal

pub returns-clause-pool : goal.returns-clause-pool
returns-clause-pool c = taken-pool c.self.inside.block_bytes c.self.inside.blocks c.self.inside.counts.items c.self.inside.bytes.items c.args.self.now c.self.view_is c.self.invariant.few c.self.invariant.limits c.self.invariant.every_byte
