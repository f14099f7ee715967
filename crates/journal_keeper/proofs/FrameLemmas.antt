-- What a frame holds.
use Rattle.std.proofs.Common.{◌≡◌, ℕ, ◌+◌, ◌≤◌, ◌<◌, ◌^◌, List, [], ◌∷◌, length, get_or, drop, refl, sym, ap, subst, ◌∙◌, arith}
use Rattle.std.proofs.lemmas.List.{append-nil, get_or-drop}
use Rattle.journal_frames.specs.Frames.{AreBytes, Fits, body, frame, framed, frames}
use Rattle.journal_frames.proofs.WholeFrames.{length-frame}

-- a body ends with its payload
body_behind : (key : ℕ) (payload : List ℕ) → drop 8 (body key payload) ≡ payload
unfolding body
body_behind key payload = refl

-- and so does a frame
frame_behind : (key : ℕ) (payload : List ℕ) → drop 24 (frame key payload) ≡ payload
unfolding framed
frame_behind key payload = body_behind key payload

-- the payload of a frame that is bytes, and no longer than one may be
pub frame-fits : (key : ℕ) (payload bytes : List ℕ) → bytes ≡ frames key (payload ∷ []) → length bytes ≤ 24 + 2 ^ 32 → AreBytes bytes → Fits payload
frame-fits key payload bytes is short are =
    let whole : bytes ≡ frame key payload = is ∙ append-nil (frame key payload) in
    let behind : drop 24 bytes ≡ payload = ap (drop 24) whole ∙ frame_behind key payload in
    record {
      short = omega (arith, short, ap (length {A = ℕ}) whole, length-frame key payload);
      bytes = λ i. subst (λ (n : ℕ). n < 256) (sym (get_or-drop 24 bytes i 0) ∙ ap (λ (l : List ℕ). get_or l i 0) behind) (are (24 + i));
    }
