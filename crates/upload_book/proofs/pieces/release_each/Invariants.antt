use Rattle.std.proofs.Common.{◌≡◌, ◌-◌, ◌++◌}
use Rattle.block_pool.specs.Blocks.{free_in}
use Rattle.block_bodies.specs.Changes.{GivesBack}
use Rattle.upload_book.specs.Stored.{placed_in}
use Rattle.upload_book.proofs.pieces.release_each.Given as goal

-- the pieces so far were given back
abbrev pub invariant-loop-piece : goal.invariant-loop-piece
invariant-loop-piece l = record {
  all : l.yielded ++ l.piece-iterator.rest.items ≡ l.fn.pieces.items;
  gives : GivesBack l.initial.pool (placed_in l.yielded) (free_in l.pool - free_in l.initial.pool) l.pool;
}
