use Rattle.std.proofs.Common.{◌≡◌, ◌≤◌, ◌++◌, length, vec_len, vec_capacity}
use Rattle.upload_book.specs.inside.FinalBack.{BringsTo}
use Rattle.upload_book.specs.inside.Kept.{stored_tenant_of}
use Rattle.upload_book.specs.Stored.{pieces_of}
use Rattle.upload_book.proofs.stored_tenant.StoredTenant.bring_each.Given as goal

-- the segments so far are had, and for the others there is room
abbrev pub invariant-loop-body : goal.invariant-loop-body
invariant-loop-body l = record {
  all : l.yielded ++ l.body-iterator.rest.items ≡ l.fn.bodies.items;
  brings : BringsTo l.initial.pool (pieces_of (stored_tenant_of l.self)) l.segments (length l.yielded) l.pool l.pieces.items;
  len : vec_len l.pieces ≡ length l.yielded;
  room : length l.segments ≤ vec_capacity l.pieces;
}
