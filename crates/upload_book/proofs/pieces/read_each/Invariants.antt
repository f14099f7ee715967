use Rattle.std.proofs.Common.{◌≡◌, ◌-◌, ◌≤◌, ◌++◌, drop, length, take, vec_capacity}
use Rattle.upload_book.specs.inside.Pieces.{bytes_of}
use Rattle.upload_book.proofs.pieces.read_each.Given as goal

-- of the pieces so far was read what was asked for, and the rest of the offset is passed over in the others
abbrev pub invariant-loop-piece : goal.invariant-loop-piece
invariant-loop-piece l = record {
  read : l.bytes.items ≡ l.initial.bytes.items ++ take l.count (drop l.offset (bytes_of l.pool (take l.piece-index l.pieces)));
  skipped : l.skipped ≡ l.offset - length (bytes_of l.pool (take l.piece-index l.pieces));
  room : vec_capacity l.initial.bytes ≤ vec_capacity l.bytes;
}
