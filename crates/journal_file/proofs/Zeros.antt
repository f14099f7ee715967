-- Zeros that are written piece by piece, one behind the other.
use Rattle.std.proofs.Common.{◌≡◌, ◌⊎◌, ℕ, ◌+◌, ◌-◌, ◌<◌, ◌≤◌, List, length, take, get_or, sym, ap, subst, ◌∙◌, arith, inl, inr}
use Rattle.std.proofs.lemmas.Bool.{cases_lt}
use Rattle.std.proofs.lemmas.List.{length-replicate, take_at}
use Rattle.sqlite_disk.specs.Disk.{Follows, Holds, Mixed, Torn}
use Rattle.journal_frames.specs.Crash.{zeros}
use Rattle.journal_file.proofs.Bytes.{zeros-at, zeros-split}

pub zeros-len : (n : ℕ) → length (zeros n) ≡ n
zeros-len n = length-replicate {A = ℕ} n 0

-- the first so many of bytes that are all zeros
pub zeros-taken : (bytes : List ℕ) (n : ℕ) → bytes ≡ zeros (length bytes) → n ≤ length bytes → take n bytes ≡ zeros n
zeros-taken bytes n are le = ap (take n) (are ∙ zeros-split (length bytes) n le) ∙ take_at (zeros n) (zeros (length bytes - n)) n (zeros-len n)

-- two writes, one behind the other, are one
pub torn-more : (at a b : ℕ) (x y z : List ℕ) → Torn at a x y → Torn (at + a) b y z → Torn at (a + b) x z
torn-more at a b x y z first second = record {
  no_shorter = omega (arith, first.no_shorter, second.no_shorter);
  no_longer = omega (arith, first.no_longer, second.no_longer);
  below = λ i lt before. second.below i (omega (arith, first.no_shorter)) (omega arith) ∙ first.below i lt before;
  above = λ i lt behind. second.above i (omega (arith, first.no_shorter)) (omega arith) ∙ first.above i lt (omega arith);
}

pub torn-wider : (at a n : ℕ) (x z : List ℕ) → a ≤ n → Torn at a x z → Torn at n x z
torn-wider at a n x z le torn = record {
  no_shorter = torn.no_shorter;
  no_longer = omega (arith, torn.no_longer);
  below = torn.below;
  above = λ i lt behind. torn.above i lt (omega arith);
}

pub holds-more : (at a b : ℕ) (y z : List ℕ) → (0 < a → Holds y at (zeros a)) → Torn (at + a) b y z → Holds z (at + a) (zeros b) → Holds z at (zeros (a + b))
holds-more at a b y z first torn second = record {
  within = omega (arith, second.within, zeros-len b, zeros-len (a + b));
  each = λ i lt.
      elim (cases_lt i a) [
        | inl early ↦
            let there : Holds y at (zeros a) = first (omega arith) in
            torn.below (at + i) (omega (arith, there.within, zeros-len a)) (omega arith)
            ∙ there.each i (omega (arith, zeros-len a)) ∙ zeros-at a i ∙ sym (zeros-at (a + b) i)
        | inr late ↦
            let here : get_or z (at + a + (i - a)) 0 ≡ get_or (zeros b) (i - a) 0 = second.each (i - a) (omega (arith, lt, zeros-len b, zeros-len (a + b))) in
            let place : at + a + (i - a) ≡ at + i = omega arith in
            ap (λ (n : ℕ). get_or z n 0) (sym place) ∙ here ∙ zeros-at b (i - a) ∙ sym (zeros-at (a + b) i)
      ];
}

pub mixed-more : (at a b : ℕ) (x y z : List ℕ) → Mixed at (zeros a) x y → Mixed (at + a) (zeros b) y z → Mixed at (zeros (a + b)) x z
mixed-more at a b x y z first second = record { torn = torn; each = each }
  where
    first_torn : Torn at a x y
    first_torn = subst (λ (n : ℕ). Torn at n x y) (zeros-len a) first.torn

    second_torn : Torn (at + a) b y z
    second_torn = subst (λ (n : ℕ). Torn (at + a) n y z) (zeros-len b) second.torn

    torn : Torn at (length (zeros (a + b))) x z
    torn = subst (λ (n : ℕ). Torn at n x z) (sym (zeros-len (a + b))) (torn-more at a b x y z first_torn second_torn)

    none : (i : ℕ) → get_or z (at + i) 0 ≡ 0 → get_or z (at + i) 0 ≡ get_or (zeros (a + b)) i 0
    none i is = is ∙ sym (zeros-at (a + b) i)

    each : (i : ℕ) → i < length (zeros (a + b)) → at + i < length x → (get_or z (at + i) 0 ≡ get_or x (at + i) 0) ⊎ (get_or z (at + i) 0 ≡ get_or (zeros (a + b)) i 0)
    each i lt within =
        let inside : at + i < length y = omega (arith, within, first_torn.no_shorter) in
        elim (cases_lt i a) [
          | inl early ↦
              let kept : get_or z (at + i) 0 ≡ get_or y (at + i) 0 = second_torn.below (at + i) inside (omega arith) in
              elim (first.each i (omega (arith, zeros-len a)) within) [
                | inl same ↦ inl (kept ∙ same)
                | inr written ↦ inr (none i (kept ∙ written ∙ zeros-at a i))
              ]
          | inr late ↦
              let place : at + a + (i - a) ≡ at + i = omega arith in
              let was : get_or y (at + i) 0 ≡ get_or x (at + i) 0 = first_torn.above (at + i) within (omega arith) in
              let here : (get_or z (at + i) 0 ≡ get_or y (at + i) 0) ⊎ (get_or z (at + i) 0 ≡ get_or (zeros b) (i - a) 0) =
              subst (λ (n : ℕ). (get_or z n 0 ≡ get_or y n 0) ⊎ (get_or z n 0 ≡ get_or (zeros b) (i - a) 0)) place (second.each (i - a) (omega (arith, lt, zeros-len b, zeros-len (a + b))) (omega (arith, inside))) in
              elim here [
                | inl same ↦ inl (same ∙ was)
                | inr written ↦ inr (none i (written ∙ zeros-at b (i - a)))
              ]
        ]

pub mixed-wider : (at a n : ℕ) (x z : List ℕ) → a ≤ n → Mixed at (zeros a) x z → Mixed at (zeros n) x z
mixed-wider at a n x z le mixed = record {
  torn = subst (λ (k : ℕ). Torn at k x z) (sym (zeros-len n)) (torn-wider at a n x z le torn);
  each = λ i lt within.
      elim (cases_lt i a) [
        | inl early ↦
            elim (mixed.each i (omega (arith, zeros-len a)) within) [
              | inl same ↦ inl same
              | inr written ↦ inr (written ∙ zeros-at a i ∙ sym (zeros-at n i))
            ]
        | inr late ↦ inl (torn.above (at + i) within (omega arith))
      ];
}
  where
    torn : Torn at a x z
    torn = subst (λ (k : ℕ). Torn at k x z) (zeros-len a) mixed.torn

-- what a crash leaves of two writes, one behind the other
pub follows-more : (at a b : ℕ) (old mid new : List ℕ → Type 0) → Follows (Mixed at (zeros a)) old mid → Follows (Mixed (at + a) (zeros b)) mid new → Follows (Mixed at (zeros (a + b))) old new
follows-more at a b old mid new first second c left =
    let then = second c left in
    let from = first then.0 then.1 in
    (from.0, from.1, mixed-more at a b from.0 then.0 c from.2 then.2)

pub follows-wider : (at a n : ℕ) (old new : List ℕ → Type 0) → a ≤ n → Follows (Mixed at (zeros a)) old new → Follows (Mixed at (zeros n)) old new
follows-wider at a n old new le follows c left = let from = follows c left in (from.0, from.1, mixed-wider at a n from.0 c le from.2)
