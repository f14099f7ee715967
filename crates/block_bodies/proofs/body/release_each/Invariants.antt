use Rattle.std.proofs.Common.{take, ◌-◌}
use Rattle.block_pool.specs.Blocks.{free_in}
use Rattle.block_bodies.specs.Changes.{GivesBack}
use Rattle.block_bodies.proofs.body.release_each.Given as goal

abbrev pub invariant-loop-block : goal.invariant-loop-block
invariant-loop-block l = GivesBack l.initial.pool (take l.block-index l.blocks) (free_in l.pool - free_in l.initial.pool) l.pool
