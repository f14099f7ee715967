-- Frames that are whole are read again.
use Rattle.std.proofs.Common.{◌≡◌, ℕ, ◌+◌, List, [], ◌∷◌, ◌++◌, length, take, drop, Ok, refl, sym, ap, ◌∙◌, append_assoc, arith, length-append}
use Rattle.std.specs.Int.{w64, from_be_bytes}
use Rattle.std.proofs.lemmas.List.{drop_at}
use Rattle.std.proofs.lemmas.Nat.{from_be_bytes-to_be_bytes_8}
use Rattle.sqlite_disk.specs.Digest.{digest}
use Rattle.journal_frames.specs.Crash.{ReadsAgain}
use Rattle.journal_frames.specs.Frames.{Fits, Reading, balance, body, frame, framed, frames, first_frame, judged, number, recovered, tail_of}
use Rattle.journal_frames.proofs.FirstFrames.{first_frame-parts, judged-whole}
use Rattle.journal_frames.proofs.Headers.{body_len}
use Rattle.journal_frames.proofs.Readings.{reads_on}
use Rattle.journal_frames.proofs.Sums.{IsBody, IsBody-body}

record Digested (key : ℕ) (bytes payload : List ℕ) : Type 0 where
  is : take 8 bytes ≡ number (digest key payload)
  payload_is : drop 8 bytes ≡ payload

body_digested : (key : ℕ) (payload : List ℕ) → Digested key (body key payload) payload
unfolding body
body_digested key payload = record { is = refl; payload_is = refl }

-- the two numbers of the header are read again
pub first_frame-framed : (key : ℕ) (bytes len told behind : List ℕ) → IsBody bytes → len ≡ number (length bytes) → told ≡ number (balance bytes)
    → first_frame key (len ++ (told ++ behind)) ≡ judged key (length bytes) (balance bytes) behind
first_frame-framed key bytes len told behind is_body len_is told_is =
    let length_read : from_be_bytes w64 len ≡ length bytes = ap (from_be_bytes w64) len_is ∙ from_be_bytes-to_be_bytes_8 (length bytes) (omega (arith, is_body.short)) in
    let balance_read : from_be_bytes w64 told ≡ balance bytes = ap (from_be_bytes w64) told_is ∙ from_be_bytes-to_be_bytes_8 (balance bytes) (omega arith) in
    first_frame-parts key len told behind (ap length len_is) (ap length told_is)
    ∙ ap (λ (n : ℕ). judged key n (from_be_bytes w64 told) behind) length_read
    ∙ ap (λ (n : ℕ). judged key (length bytes) n behind) balance_read

pub judged-body : (key : ℕ) (payload rest : List ℕ) → Fits payload → judged key (length (body key payload)) (balance (body key payload)) (body key payload ++ rest) ≡ Ok payload
judged-body key payload rest fits =
    let digested = body_digested key payload in
    judged-whole key (body key payload) rest (IsBody-body key payload fits) (digested.is ∙ ap (λ (p : List ℕ). number (digest key p)) (sym digested.payload_is)) ∙ ap (λ (p : List ℕ). Ok p) digested.payload_is

pub first_frame-frame : (key : ℕ) (payload rest : List ℕ) → Fits payload → first_frame key (frame key payload ++ rest) ≡ Ok payload
unfolding framed
first_frame-frame key payload rest fits =
    let bytes = body key payload in
    let split : frame key payload ++ rest ≡ number (length bytes) ++ (number (balance bytes) ++ (bytes ++ rest)) =
    append_assoc (number (length bytes)) (number (balance bytes) ++ bytes) rest ∙ ap (λ (t : List ℕ). number (length bytes) ++ t) (append_assoc (number (balance bytes)) bytes rest) in
    ap (first_frame key) split
    ∙ first_frame-framed key bytes (number (length bytes)) (number (balance bytes)) (bytes ++ rest) (IsBody-body key payload fits) refl refl
    ∙ judged-body key payload rest fits

pub length-frame : (key : ℕ) (payload : List ℕ) → length (frame key payload) ≡ 24 + length payload
unfolding framed
length-frame key payload =
    let bytes = body key payload in
    omega (arith, length-append (number (length bytes)) (number (balance bytes) ++ bytes), length-append (number (balance bytes)) bytes, body_len key payload)

pub frame_again : (key : ℕ) (payload rest : List ℕ) → Fits payload
    → (recovered key (frame key payload ++ rest) ≡ payload ∷ recovered key rest) × (tail_of key (frame key payload ++ rest) ≡ tail_of key rest)
frame_again key payload rest fits =
    let read = reads_on key (frame key payload ++ rest) payload (first_frame-frame key payload rest fits) in
    let behind : drop (24 + length payload) (frame key payload ++ rest) ≡ rest = drop_at (frame key payload) rest (24 + length payload) (length-frame key payload) in (
      ap (λ (r : Reading). r.payloads) read ∙ ap (λ (t : List ℕ). payload ∷ recovered key t) behind,
      ap (λ (r : Reading). r.tail) read ∙ ap (tail_of key) behind,
    )

pub frames_again : ReadsAgain
frames_again key [] rest fits = (refl, refl)
frames_again key (p ∷ ps) rest fits =
    let regroup : frames key (p ∷ ps) ++ rest ≡ frame key p ++ (frames key ps ++ rest) = append_assoc (frame key p) (frames key ps) rest in
    let first = frame_again key p (frames key ps ++ rest) fits.0 in
    let others = frames_again key ps rest fits.1 in (
      ap (recovered key) regroup ∙ first.0 ∙ ap (λ (x : List (List ℕ)). p ∷ x) others.0,
      ap (tail_of key) regroup ∙ first.1 ∙ others.1,
    )
