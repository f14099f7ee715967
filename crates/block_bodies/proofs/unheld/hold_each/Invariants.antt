use Rattle.std.proofs.Common.{take}
use Rattle.block_bodies.specs.Changes.{Holds}
use Rattle.block_bodies.proofs.unheld.hold_each.Given as goal

abbrev pub invariant-loop-block : goal.invariant-loop-block
invariant-loop-block l = Holds l.initial.pool (take l.block-index l.blocks) l.pool
