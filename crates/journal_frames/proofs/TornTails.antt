-- A torn tail that loses more bytes is still torn.
use Rattle.std.proofs.Common.{◌≡◌, ◌≢◌, ℕ, ◌+◌, ◌^◌, ◌<◌, ◌≤◌, Bool, true, false, cond, ltb, eqb, List, ◌∷◌, length, take, drop, sum, Result, Ok, Err, refl, sym, ap, ◌∙◌, arith, inl, inr}
use Rattle.std.specs.Prelude.{bytes_eq}
use Rattle.std.proofs.lemmas.Bool.{cases_lt, ltb-false, le-ltb, lt-ltb}
use Rattle.std.proofs.lemmas.List.{length-take, take-take}
use Rattle.std.proofs.lemmas.List.Sums.{sum_by-take-le}
use Rattle.sqlite_disk.specs.Digest.{digest}
use Rattle.journal_frames.specs.Crash.{IsTornTail, Loses, StaysTorn}
use Rattle.journal_frames.specs.Frames.{Reading, balance, first_frame, judged, number, number_at, opened, recovered, weighed}
use Rattle.journal_frames.specs.declared.tail.Tail.{Tail}
use Rattle.journal_frames.specs.declared.tail.Tail.TheVariants.{Torn, Cut, Damaged}
use Rattle.journal_frames.proofs.Readings.{reads_no_more, reads_on}
use Rattle.journal_frames.proofs.Losses.{loses-length, loses-number, loses-parts, loses-sum}

torn_first : (b : Bool) (e : Tail) (r : Result (List ℕ) Tail) → e ≢ Torn → cond b (Err e) r ≡ Err Torn → (b ≡ false) × (r ≡ Err Torn)
torn_first true e r other is = absurd (other cc)
torn_first false e r other is = (refl, is)

cut_is_not_torn : Cut ≢ Torn
cut_is_not_torn is = cc

damage_is_not_torn : Damaged ≢ Torn
damage_is_not_torn is = cc

-- a digest tells no torn frame
opened_torn : (key : ℕ) (bytes : List ℕ) → opened key bytes ≡ Err Torn → ⊥
opened_torn key bytes is = by_test (bytes_eq (take 8 bytes) (number (digest key (drop 8 bytes)))) is
  where
    by_test : (b : Bool) → cond b (Ok (drop 8 bytes)) (Err Damaged) ≡ Err Torn → ⊥
    by_test true same = cc
    by_test false same = cc

weighed_torn : (key told : ℕ) (bytes : List ℕ) → weighed key told bytes ≡ Err Torn → told < balance bytes
weighed_torn key told bytes is = elim (cases_lt told (balance bytes)) [
  | inl lt ↦ lt
  | inr le ↦ let no : ltb told (balance bytes) ≡ false = le-ltb _ _ le in absurd (by_test (eqb told (balance bytes)) (rw no at is))
]
  where
    by_test : (b : Bool) → cond b (opened key bytes) (Err Damaged) ≡ Err Torn → ⊥
    by_test true same = opened_torn key bytes same
    by_test false same = cc

record IsTorn (len told : ℕ) (behind : List ℕ) : Type 0 where
  short : len ≤ 2 ^ 32 + 8
  there : len ≤ length behind
  lower : told < balance (take len behind)

judged_torn : (key len told : ℕ) (behind : List ℕ) → judged key len told behind ≡ Err Torn → IsTorn len told behind
judged_torn key len told behind is =
    let some = take len behind in
    let a = torn_first (ltb (2 ^ 32 + 8) len) Damaged (cond (ltb (length behind) len) (Err Cut) (weighed key told some)) damage_is_not_torn is in
    let b = torn_first (ltb (length behind) len) Cut (weighed key told some) cut_is_not_torn a.1 in
    record { short = ltb-false _ _ a.0; there = ltb-false _ _ b.0; lower = weighed_torn key told some b.1 }

first_frame_stays_torn : (key : ℕ) (file left : List ℕ) → first_frame key file ≡ Err Torn → Loses file left → first_frame key left ≡ Err Torn
unfolding first_frame
first_frame_stays_torn key file left torn lost =
    let behind = drop 8 (drop 8 file) in
    let rest = drop 8 (drop 8 left) in
    let len = number_at file in
    let told = number_at (drop 8 file) in
    let less = number_at left in
    let lower = number_at (drop 8 left) in
    let a = torn_first (ltb (length file) 16) Cut (judged key len told behind) cut_is_not_torn torn in
    let long : 16 ≤ length file = ltb-false _ _ a.0 in
    let t = judged_torn key len told behind a.1 in
    let same_len : length left ≡ length file = loses-length file left lost in
    let first = loses-parts 8 file left lost in
    let second = loses-parts 8 (drop 8 file) (drop 8 left) first.1 in
    let shorter : less ≤ len = loses-number (take 8 file) (take 8 left) first.0 in
    let lighter : lower ≤ told = loses-number (take 8 (drop 8 file)) (take 8 (drop 8 left)) second.0 in
    let some = take len behind in
    let now = take less rest in
    let part = loses-parts less behind rest second.1 in
    let same_rest : length rest ≡ length behind = loses-length behind rest second.1 in
    let now_len : length now ≡ less = omega (arith, length-take less rest, t.there) in
    let some_len : length some ≡ len = omega (arith, length-take len behind, t.there) in
    let now_sum : sum now ≤ sum (take less behind) = loses-sum (take less behind) now part.0 in
    let part_sum : sum (take less behind) ≤ sum some = omega (arith, ap sum (take-take less len behind shorter), sum_by-take-le (λ x. x) some less) in
    let is_long : ltb (length left) 16 ≡ false = le-ltb _ _ (omega arith) in
    let is_short : ltb (2 ^ 32 + 8) less ≡ false = le-ltb _ _ (omega (arith, t.short)) in
    let is_there : ltb (length rest) less ≡ false = le-ltb _ _ (omega (arith, t.there)) in
    let is_lower : ltb lower (balance now) ≡ true = lt-ltb _ _ (omega (arith, t.lower)) in
    rw (is_long, is_short, is_there, is_lower) refl

-- what stands first in a file of which nothing is read
first_frame_none : (key : ℕ) (file : List ℕ) → IsTornTail key file → first_frame key file ≡ Err Torn
first_frame_none key file tail = by_first_frame (first_frame key file) refl
  where
    by_first_frame : (r : Result (List ℕ) Tail) → first_frame key file ≡ r → first_frame key file ≡ Err Torn
    by_first_frame (Ok payload) is =
        let read : recovered key file ≡ payload ∷ recovered key (drop (24 + length payload) file) = ap (λ (x : Reading). x.payloads) (reads_on key file payload is) in
        absurd (cc (read, tail.none))
    by_first_frame (Err other) is =
        let same : other ≡ Torn = sym (ap (λ (x : Reading). x.tail) (reads_no_more key file other is)) ∙ tail.torn in
        is ∙ ap (λ (t : Tail). Err t) same

torn_is_long : (key : ℕ) (file : List ℕ) → first_frame key file ≡ Err Torn → 16 ≤ length file
unfolding first_frame
torn_is_long key file torn =
    let a = torn_first (ltb (length file) 16) Cut (judged key (number_at file) (number_at (drop 8 file)) (drop 8 (drop 8 file))) cut_is_not_torn torn in
    ltb-false _ _ a.0

pub stays_torn : StaysTorn
stays_torn key file left tail lost =
    let first = first_frame_none key file tail in
    let rest = reads_no_more key left Torn (first_frame_stays_torn key file left first lost) in
    (torn_is_long key file first, record { none = ap (λ (x : Reading). x.payloads) rest; torn = ap (λ (x : Reading). x.tail) rest })
