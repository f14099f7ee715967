use Rattle.std.proofs.Common.{◌≡◌, ◌≤◌, length, vec_len, vec_capacity}
use Rattle.upload_book.specs.inside.Kept.{stored_tenant_of}
use Rattle.upload_book.specs.Stored.{pieces_of}
use Rattle.upload_book.proofs.Restoring.FinalRooms.{AreRooms}
use Rattle.upload_book.proofs.stored_tenant.StoredTenant.rooms_for.Given as goal

-- there is a body for each segment before this one, and room for the others
abbrev pub invariant-loop-place : goal.invariant-loop-place
invariant-loop-place l = record {
  rooms : AreRooms l.size (pieces_of (stored_tenant_of l.self)) l.segments l.bodies.items;
  long : vec_len l.bodies ≡ l.place;
  capacity : length l.segments ≤ vec_capacity l.bodies;
}
