use Rattle.std.proofs.Common.{◌≡◌, ◌++◌, ◌∷◌, [], ℕ, List, Option, take, unwrap_or, sym, ap, ◌∙◌, subst, arith}
use Rattle.std.proofs.lemmas.List.{get_or_read}
use Rattle.block_bodies.specs.Bodies.{Chain}
use Rattle.upload_book.specs.inside.FinalBack.{IsRoomFor, segment_len}
use Rattle.upload_book.specs.inside.Kept.{stored_tenant_of}
use Rattle.upload_book.specs.snapshot.Restored.{RestoredSegment}
use Rattle.upload_book.specs.Stored.{pieces_of}
use Rattle.upload_book.proofs.Restoring.FinalRooms.{AreRooms, AreRooms-more}
use Rattle.upload_book.proofs.stored_tenant.StoredTenant.rooms_for.Goals as goal

pub loop-place-preserved : goal.loop-place-preserved
loop-place-preserved c =
    let pieces = pieces_of (stored_tenant_of c.args.self.now) in
    let segments = c.args.segments.now in
    let k = c.loop-place.place in
    let s : RestoredSegment = c.index-segments-place.result in
    let len : c.unwrap_or.result ≡ unwrap_or (segment_len pieces (take k segments) s) 0 = c.unwrap_or.ensures ∙ ap (λ (found : Option ℕ). unwrap_or found 0) c.segment_len-len.ensures in
    let room : IsRoomFor c.args.size (unwrap_or (segment_len pieces (take k segments) s) 0) c.in_ok-room_for.field-0 = subst (λ (n : ℕ). IsRoomFor c.args.size n c.in_ok-room_for.field-0) len c.in_ok-room_for.ensures in
    let pushed : c.loop-place.bodies.items ++ c.in_ok-room_for.field-0 ∷ [] ≡ c.push_reserved.new.self.items = sym {A = List Chain} c.push_reserved.ensures.items in
    record {
      rooms = subst (AreRooms c.args.size pieces segments) pushed
          (AreRooms-more c.args.size pieces segments c.loop-place.bodies.items k s c.in_ok-room_for.field-0 c.loop-place.invariant.rooms (omega (arith, c.loop-place.invariant.long, c.loop-place.bodies.ok.0)) c.loop-place-test.true (λ (d : RestoredSegment). get_or_read segments k s c.loop-place-test.true c.index-segments-place.is d) room);
      long = omega (arith, c.push_reserved.ensures.len, c.loop-place.invariant.long);
      capacity = omega (arith, c.push_reserved.ensures.capacity, c.loop-place.invariant.capacity);
    }
