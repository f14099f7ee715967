use Rattle.std.proofs.Common.{arith}
use Rattle.block_pool.proofs.Stored.{taken-none, taken-read_at}
use Rattle.block_pool.proofs.pool.Pool.count.Goals as goal

pub returns-then-at-len : goal.returns-then-at-len
returns-then-at-len c =
    taken-read_at c.self.inside.block_bytes c.self.inside.blocks c.self.inside.counts.items c.self.inside.bytes.items c.args.self.now c.self.view_is c.args.block c.number-at.result _ (omega (arith, c.if-at-len.true, c.len.ensures)) c.index.ensures c.number-at.ensures.value

pub returns-else-at-len : goal.returns-else-at-len
returns-else-at-len c = taken-none c.self.inside.block_bytes c.self.inside.blocks c.self.inside.counts.items c.self.inside.bytes.items c.args.self.now c.self.view_is c.args.block (omega (arith, c.if-at-len.false, c.len.ensures, c.number-at.ensures.value))
