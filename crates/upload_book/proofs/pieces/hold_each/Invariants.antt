use Rattle.std.proofs.Common.{◌≡◌, ◌+◌, ◌≤◌, ◌++◌, map, length, vec_len, vec_capacity}
use Rattle.block_bodies.specs.Changes.{Holds}
use Rattle.upload_book.specs.Stored.{placed_in}
use Rattle.upload_book.specs.inside.Pieces.{as_piece}
use Rattle.upload_book.proofs.pieces.hold_each.Given as goal

-- the pieces so far are held, and for the others there is room
abbrev pub invariant-loop-piece : goal.invariant-loop-piece
invariant-loop-piece l = record {
  all : l.yielded ++ l.piece-iterator.rest.items ≡ l.fn.unheld.items;
  pieces : l.pieces.items ≡ l.initial.pieces.items ++ map as_piece l.yielded;
  room : vec_len l.pieces + length l.piece-iterator.rest.items ≤ vec_capacity l.pieces;
  holds : Holds l.initial.pool (placed_in (map as_piece l.yielded)) l.pool;
}
