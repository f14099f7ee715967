-- What a crash leaves of frames that were written over zeros, and what a cut does.
use Rattle.std.proofs.Common.{◌≡◌, ◌⊎◌, ℕ, suc, ◌+◌, ◌-◌, ◌^◌, ◌<◌, ◌≤◌, true, false, ltb, List, [], ◌∷◌, ◌++◌, length, take, drop, sum, Ok, Err, refl, sym, ap, subst, ◌∙◌, append_assoc, arith, length-append, inl, inr}
use Rattle.std.specs.Int.{w64, from_be_bytes}
use Rattle.std.specs.List.{AllByRecursion}
use Rattle.std.proofs.lemmas.Bool.{cases_lt, le-ltb, lt-ltb}
use Rattle.std.proofs.lemmas.List.{take_all, take-append-drop, take-append-le, length-take, drop_at}
use Rattle.std.proofs.lemmas.List.Sums.{sum_by-take-le}
use Rattle.std.proofs.lemmas.Nat.{from_be_bytes-to_be_bytes_8}
use Rattle.std.proofs.Math.Seq.{take-append-add, take-nil}
use Rattle.journal_frames.specs.Crash.{CutsWholeFrames, Leaves, Loses, LosesWholeFrames, zeros}
use Rattle.journal_frames.specs.Frames.{Fits, Reading, balance, body, frame, framed, frames, first_frame, judged, number, recovered, tail_of}
use Rattle.journal_frames.specs.declared.tail.Tail.TheVariants.{Torn, Cut}
use Rattle.journal_frames.proofs.FirstFrames.{first_frame-parts, first_frame_short}
use Rattle.journal_frames.proofs.Losses.{loses-append, loses-length, loses-nothing, loses-number, loses-sum, loses-zeros}
use Rattle.journal_frames.proofs.Readings.{reads_on, reads_no_more, first_frame_none}
use Rattle.journal_frames.proofs.Headers.{body_len}
use Rattle.journal_frames.proofs.Sums.{IsBody, IsBody-body}
use Rattle.journal_frames.proofs.WholeFrames.{frame_again, frames_again, first_frame-framed, judged-body}

-- ---- lost bytes

-- a header that may have lost bytes before a body that may have: the frame is torn, or nothing was lost of the body
-- and the header tells its length and its balance
judged_lost : (key : ℕ) (bytes left rest : List ℕ) (len told : ℕ) → IsBody bytes → Loses bytes left → len ≤ length bytes → told ≤ balance bytes
    → (judged key len told (left ++ rest) ≡ Err Torn) ⊎ ((left ≡ bytes) × (len ≡ length bytes) × (told ≡ balance bytes))
judged_lost key bytes left rest len told is_body lost shorter lower =
    let same_len : length left ≡ length bytes = loses-length bytes left lost in
    let some = take len (left ++ rest) in
    let some_is : some ≡ take len left = take-append-le len left rest (omega arith) in
    let some_len : length some ≡ len = omega (arith, ap length some_is, length-take len left) in
    let some_sum : sum some ≤ sum bytes = omega (arith, ap sum some_is, sum_by-take-le (λ x. x) left len, loses-sum bytes left lost) in
    let fits : ltb (2 ^ 32 + 8) len ≡ false = le-ltb _ _ (omega (arith, is_body.short)) in
    let there : ltb (length (left ++ rest)) len ≡ false = le-ltb _ _ (omega (arith, length-append left rest)) in
    elim (cases_lt told (balance some)) [
      | inl lt ↦ let torn : ltb told (balance some) ≡ true = lt-ltb _ _ lt in inl (rw (fits, there, torn) refl)
      | inr le ↦
          let light = is_body.light in
          let whole_len : len ≡ length bytes = omega arith in
          let whole : some ≡ left = some_is ∙ take_all len left (omega arith) in
          let whole_sum : sum left ≡ sum bytes = omega (arith, ap sum whole) in
          inr (loses-nothing bytes left lost whole_sum, whole_len, omega arith)
    ]

-- One frame that may have lost bytes, before what is left of others.
lost_frame : (key : ℕ) (p : List ℕ) (ps : List (List ℕ)) (len told bytes more : List ℕ) → Fits p → Loses (number (length (body key p))) len → Loses (number (balance (body key p))) told → Loses (body key p) bytes
    → Leaves key [] ps more → Leaves key [] (p ∷ ps) (len ++ (told ++ (bytes ++ more)))
lost_frame key p ps len told bytes more fits len_lost told_lost bytes_lost behind =
    let whole = body key p in
    let is_body = IsBody-body key p fits in
    let file = len ++ (told ++ (bytes ++ more)) in
    let shorter : from_be_bytes w64 len ≤ length whole = omega (arith, loses-number (number (length whole)) len len_lost, from_be_bytes-to_be_bytes_8 (length whole) (omega (arith, is_body.short))) in
    let lower : from_be_bytes w64 told ≤ balance whole = omega (arith, loses-number (number (balance whole)) told told_lost, from_be_bytes-to_be_bytes_8 (balance whole) (omega arith)) in
    let eight : length len ≡ 8 = loses-length (number (length whole)) len len_lost in
    let also : length told ≡ 8 = loses-length (number (balance whole)) told told_lost in
    let first : first_frame key file ≡ judged key (from_be_bytes w64 len) (from_be_bytes w64 told) (bytes ++ more) = first_frame-parts key len told (bytes ++ more) eight also in
    elim (judged_lost key whole bytes more (from_be_bytes w64 len) (from_be_bytes w64 told) is_body bytes_lost shorter lower) [
      | inl torn ↦
          let none = reads_no_more key file Torn (first ∙ torn) in
          record { kept = 0; within = omega arith; payloads = ap (λ (r : Reading). r.payloads) none; behind = ap (λ (r : Reading). r.tail) none }
      | inr kept ↦
          let same : judged key (from_be_bytes w64 len) (from_be_bytes w64 told) (bytes ++ more) ≡ judged key (length whole) (balance whole) (whole ++ more) =
          ap (λ (n : ℕ). judged key n (from_be_bytes w64 told) (bytes ++ more)) kept.1 ∙ ap (λ (n : ℕ). judged key (length whole) n (bytes ++ more)) kept.2 ∙ ap (λ (t : List ℕ). judged key (length whole) (balance whole) (t ++ more)) kept.0 in
          let read : first_frame key file ≡ Ok p = first ∙ same ∙ judged-body key p more fits in
          let on = reads_on key file p read in
          let regroup : file ≡ (len ++ (told ++ bytes)) ++ more = ap (λ (t : List ℕ). len ++ t) (sym (append_assoc told bytes more)) ∙ sym (append_assoc len (told ++ bytes) more) in
          let before : length (len ++ (told ++ bytes)) ≡ 24 + length p = omega (arith, length-append len (told ++ bytes), length-append told bytes, ap length kept.0, body_len key p) in
          let rest : drop (24 + length p) file ≡ more = ap (drop (24 + length p)) regroup ∙ drop_at (len ++ (told ++ bytes)) more (24 + length p) before in
          record {
            kept = suc behind.kept;
            within = omega (arith, behind.within);
            payloads = ap (λ (r : Reading). r.payloads) on ∙ ap (λ (t : List ℕ). p ∷ recovered key t) rest ∙ ap (λ (x : List (List ℕ)). p ∷ x) behind.payloads;
            behind = ap (λ (r : Reading). r.tail) on ∙ ap (tail_of key) rest ∙ behind.behind;
          }
    ]

first_frame_zeros : (key : ℕ) (rest : List ℕ) → first_frame key (zeros 16 ++ rest) ≡ Err Torn
first_frame_zeros key rest =
    let there : ltb (length rest) 0 ≡ false = le-ltb _ _ (omega arith) in
    first_frame-parts key (zeros 8) (zeros 8) rest refl refl ∙ rw there refl

-- what is left of frames, whatever stands behind them and 16 zeros, is the first so many
lost_frames : (key : ℕ) (payloads : List (List ℕ)) (left rest : List ℕ) → AllByRecursion Fits payloads → Loses (frames key payloads ++ zeros 16) left → Leaves key [] payloads (left ++ rest)
unfolding framed
lost_frames key [] left rest fits lost =
    let none = reads_no_more key (left ++ rest) Torn (ap (λ (t : List ℕ). first_frame key (t ++ rest)) (loses-zeros 16 left lost) ∙ first_frame_zeros key rest) in
    record { kept = 0; within = omega arith; payloads = ap (λ (r : Reading). r.payloads) none; behind = ap (λ (r : Reading). r.tail) none }
lost_frames key (p ∷ ps) left rest fits lost =
    let whole = body key p in
    let others = frames key ps ++ zeros 16 in
    let len = number (length whole) in
    let told = number (balance whole) in
    let regroup : frames key (p ∷ ps) ++ zeros 16 ≡ len ++ (told ++ (whole ++ others)) =
    append_assoc (frame key p) (frames key ps) (zeros 16) ∙ append_assoc len (told ++ whole) others ∙ ap (λ (t : List ℕ). len ++ t) (append_assoc told whole others) in
    let parted = subst (λ (t : List ℕ). Loses t left) regroup lost in
    let a = loses-append len (told ++ (whole ++ others)) left parted in
    let b = loses-append told (whole ++ others) (drop 8 left) a.1 in
    let d = loses-append whole others (drop 8 (drop 8 left)) b.1 in
    let more = drop (length whole) (drop 8 (drop 8 left)) in
    let bytes = take (length whole) (drop 8 (drop 8 left)) in
    let split : left ≡ take 8 left ++ (take 8 (drop 8 left) ++ (bytes ++ more)) =
    sym (take-append-drop 8 left)
    ∙ ap (λ (t : List ℕ). take 8 left ++ t) (sym (take-append-drop 8 (drop 8 left)))
    ∙ ap (λ (t : List ℕ). take 8 left ++ (take 8 (drop 8 left) ++ t)) (sym (take-append-drop (length whole) (drop 8 (drop 8 left)))) in
    let file : left ++ rest ≡ take 8 left ++ (take 8 (drop 8 left) ++ (bytes ++ (more ++ rest))) =
    ap (λ (t : List ℕ). t ++ rest) split
    ∙ append_assoc (take 8 left) (take 8 (drop 8 left) ++ (bytes ++ more)) rest
    ∙ ap (λ (t : List ℕ). take 8 left ++ t) (append_assoc (take 8 (drop 8 left)) (bytes ++ more) rest)
    ∙ ap (λ (t : List ℕ). take 8 left ++ (take 8 (drop 8 left) ++ t)) (append_assoc bytes more rest) in
    subst (Leaves key [] (p ∷ ps)) (sym file) (lost_frame key p ps (take 8 left) (take 8 (drop 8 left)) bytes (more ++ rest) fits.0 a.0 b.0 d.0 (lost_frames key ps more rest fits.1 d.1))

pub loses_whole_frames : LosesWholeFrames
loses_whole_frames key synced unsynced left rest fits more_fit lost =
    let again = frames_again key synced (left ++ rest) fits in
    let others = lost_frames key unsynced left rest more_fit lost in
    record {
      kept = others.kept;
      within = others.within;
      payloads = again.0 ∙ ap (λ (x : List (List ℕ)). synced ++ x) others.payloads;
      behind = again.1 ∙ others.behind;
    }

-- ---- cuts

-- a frame that was cut is torn
cut_frame : (key : ℕ) (p : List ℕ) (n : ℕ) → Fits p → n < length (frame key p) → first_frame key (take n (frame key p)) ≡ Err Cut
unfolding framed
cut_frame key p n fits cut =
    let whole = body key p in
    let is_body = IsBody-body key p fits in
    let len = number (length whole) in
    let told = number (balance whole) in
    let file = len ++ (told ++ whole) in
    elim (cases_lt n 16) [
      | inl lt ↦ first_frame_short key (take n file) (omega (arith, length-take n file))
      | inr le ↦
          let some = take (n - 16) whole in
          let split : take n file ≡ len ++ (told ++ some) =
          ap (λ (m : ℕ). take m file) (omega arith) ∙ take-append-add len (told ++ whole) (8 + (n - 16)) ∙ ap (λ (t : List ℕ). len ++ t) (take-append-add told whole (n - 16)) in
          let fit : ltb (2 ^ 32 + 8) (length whole) ≡ false = le-ltb _ _ is_body.short in
          let past : ltb (length some) (length whole) ≡ true = lt-ltb _ _ (omega (arith, length-take (n - 16) whole, length-append len (told ++ whole), length-append told whole)) in
          ap (first_frame key) split ∙ first_frame-framed key whole len told some is_body refl refl ∙ rw (fit, past) refl
    ]

pub cuts_whole_frames : CutsWholeFrames
cuts_whole_frames key [] n fits =
    let none = reads_no_more key (take n []) Cut (ap (first_frame key) (take-nil n) ∙ first_frame_none key) in
    record { kept = 0; within = omega arith; payloads = ap (λ (r : Reading). r.payloads) none; behind = ap (λ (r : Reading). r.tail) none }
cuts_whole_frames key (p ∷ ps) n fits = elim (cases_lt n (length (frame key p))) [
  | inl lt ↦
      let first : take n (frames key (p ∷ ps)) ≡ take n (frame key p) = take-append-le n (frame key p) (frames key ps) (omega arith) in
      let none = reads_no_more key (take n (frames key (p ∷ ps))) Cut (ap (first_frame key) first ∙ cut_frame key p n fits.0 lt) in
      record { kept = 0; within = omega arith; payloads = ap (λ (r : Reading). r.payloads) none; behind = ap (λ (r : Reading). r.tail) none }
  | inr le ↦
      let m = n - length (frame key p) in
      let split : take n (frames key (p ∷ ps)) ≡ frame key p ++ take m (frames key ps) = ap (λ (k : ℕ). take k (frames key (p ∷ ps))) (omega arith) ∙ take-append-add (frame key p) (frames key ps) m in
      let first = frame_again key p (take m (frames key ps)) fits.0 in
      let others = cuts_whole_frames key ps m fits.1 in
      record {
        kept = suc others.kept;
        within = omega (arith, others.within);
        payloads = ap (recovered key) split ∙ first.0 ∙ ap (λ (x : List (List ℕ)). p ∷ x) others.payloads;
        behind = ap (tail_of key) split ∙ first.1 ∙ others.behind;
      }
]
