-- Bodies with room for the segments of a final upload that is put back.
use Rattle.std.proofs.Common.{◌≡◌, ℕ, ◌<◌, List, [], ◌∷◌, ◌++◌, length, get_or, take, unwrap_or, inl, inr, sym, subst, arith}
use Rattle.std.proofs.lemmas.Bool.{cases_lt}
use Rattle.std.proofs.lemmas.List.{get_or_append_left, get_or_at}
use Rattle.std.proofs.Math.ListN.{length-append}
use Rattle.block_bodies.specs.Bodies.{Chain}
use Rattle.upload_book.specs.declared.pieces.Piece.{Piece}
use Rattle.upload_book.specs.inside.FinalBack.{IsRoomFor, segment_len}
use Rattle.upload_book.specs.snapshot.Restored.{RestoredSegment}

-- there is a body for each of the first segments
abbrev pub AreRooms : ℕ → List Piece → List RestoredSegment → List Chain → Type 0
AreRooms size pieces segments bodies =
    (k : ℕ) (s : RestoredSegment) (x : Chain) → k < length bodies → IsRoomFor size (unwrap_or (segment_len pieces (take k segments) (get_or segments k s)) 0) (get_or bodies k x)

pub AreRooms-more : (size : ℕ) (pieces : List Piece) (segments : List RestoredSegment) (bodies : List Chain) (k : ℕ) (s : RestoredSegment) (x : Chain) → AreRooms size pieces segments bodies → length bodies ≡ k → k < length segments
    → ((d : RestoredSegment) → s ≡ get_or segments k d) → IsRoomFor size (unwrap_or (segment_len pieces (take k segments) s) 0) x → AreRooms size pieces segments (bodies ++ x ∷ [])
AreRooms-more size pieces segments bodies k s x so_far long within read room j d y l = elim (cases_lt j (length bodies)) [
  | inl before ↦ subst (IsRoomFor size (unwrap_or (segment_len pieces (take j segments) (get_or segments j d)) 0)) (sym (get_or_append_left bodies (x ∷ []) y j before)) (so_far j d y before)
  | inr last ↦
      let at : j ≡ k = omega (arith, l, length-append bodies (x ∷ []), long) in
      let here : get_or (bodies ++ x ∷ []) j y ≡ x = get_or_at bodies x [] y j (omega (arith, at, long)) in
      subst (IsRoomFor size (unwrap_or (segment_len pieces (take j segments) (get_or segments j d)) 0)) (sym here)
      (subst (λ (j : ℕ). IsRoomFor size (unwrap_or (segment_len pieces (take j segments) (get_or segments j d)) 0) x) (sym at) (subst (λ (s : RestoredSegment). IsRoomFor size (unwrap_or (segment_len pieces (take k segments) s) 0) x) (read d) room))
]
