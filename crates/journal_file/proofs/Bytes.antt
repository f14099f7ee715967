-- Bytes that are written over zeros, as lists: what is there, and what a crash leaves.
use Rattle.std.proofs.Common.{◌≡◌, ◌⊎◌, ℕ, zero, suc, ◌+◌, ◌-◌, ◌<◌, ◌≤◌, List, ◌++◌, length, get_or, take, drop, refl, sym, ap, subst, ◌∙◌, arith, length-append, inl, inr}
use Rattle.std.proofs.lemmas.Bool.{cases_lt}
use Rattle.std.proofs.lemmas.List.{ext_get_or, get_or_append_left, get_or-append-add, get_or-take, length-take, length-replicate, replicate-append-replicate, take-append-drop}
use Rattle.sqlite_disk.specs.Disk.{Cut, Holds, Mixed, Torn}
use Rattle.journal_frames.specs.Crash.{zeros}
use Rattle.journal_file.specs.Journal.{MayLose}

pub Torn-refl : (at n : ℕ) (file : List ℕ) → Torn at n file file
Torn-refl at n file = record { no_shorter = omega arith; no_longer = omega arith; below = λ i within before. refl; above = λ i within behind. refl }

pub zeros-at : (n i : ℕ) → get_or (zeros n) i 0 ≡ 0
zeros-at zero i = refl
zeros-at (suc n) zero = refl
zeros-at (suc n) (suc i) = zeros-at n i

-- in front of the place, at the place with so many bytes behind it, or behind these
data Place (at n i : ℕ) : Type 0 where
  in_front : i < at → Place at n i
  at_place : (j : ℕ) → j < n → i ≡ at + j → Place at n i
  behind : (j : ℕ) → i ≡ at + (n + j) → Place at n i

place : (at n i : ℕ) → Place at n i
place at n i = elim (cases_lt i at) [
  | inl lt ↦ in_front lt
  | inr le ↦ elim (cases_lt i (at + n)) [
    | inl lt ↦ at_place (i - at) (omega arith) (omega arith)
    | inr far ↦ behind (i - at - n) (omega arith)
  ]
]

-- what stands at a place of bytes behind others
at-front : (front others : List ℕ) (i : ℕ) → i < length front → get_or (front ++ others) i 0 ≡ get_or front i 0
at-front front others i lt = get_or_append_left front others 0 i lt

at-second : (front bytes others : List ℕ) (j : ℕ) → j < length bytes → get_or (front ++ (bytes ++ others)) (length front + j) 0 ≡ get_or bytes j 0
at-second front bytes others j lt = get_or-append-add front (bytes ++ others) j 0 ∙ get_or_append_left bytes others 0 j lt

at-third : (front bytes others : List ℕ) (j : ℕ) → get_or (front ++ (bytes ++ others)) (length front + (length bytes + j)) 0 ≡ get_or others j 0
at-third front bytes others j = get_or-append-add front (bytes ++ others) (length bytes + j) 0 ∙ get_or-append-add bytes others j 0

-- what was written over as many bytes stands there
pub overwritten : (front middle bytes others seen : List ℕ) → length middle ≡ length bytes → Torn (length front) (length bytes) (front ++ (middle ++ others)) seen → (0 < length bytes → Holds seen (length front) bytes) → seen ≡ front ++ (bytes ++ others)
overwritten front middle bytes others seen same_len torn holds = ext_get_or 0 seen (front ++ (bytes ++ others)) len each
  where
    len_old : length (front ++ (middle ++ others)) ≡ length front + (length bytes + length others)
    len_old = omega (arith, length-append front (middle ++ others), length-append middle others)

    len_new : length (front ++ (bytes ++ others)) ≡ length front + (length bytes + length others)
    len_new = omega (arith, length-append front (bytes ++ others), length-append bytes others)

    len : length seen ≡ length (front ++ (bytes ++ others))
    len = omega (arith, torn.no_shorter, torn.no_longer, len_old, len_new)

    each : (i : ℕ) → i < length seen → get_or seen i 0 ≡ get_or (front ++ (bytes ++ others)) i 0
    each i within = elim (place (length front) (length bytes) i) [
      | in_front lt ↦ torn.below i (omega (arith, len_old)) lt ∙ at-front front (middle ++ others) i lt ∙ sym (at-front front (bytes ++ others) i lt)
      | at_place j lt is ↦
          let here : get_or seen (length front + j) 0 ≡ get_or bytes j 0 = (holds (omega arith)).each j lt in
          rw is (here ∙ sym (at-second front bytes others j lt))
      | behind j is ↦
          let kept : get_or seen (length front + (length bytes + j)) 0 ≡ get_or (front ++ (middle ++ others)) (length front + (length bytes + j)) 0 = torn.above (length front + (length bytes + j)) (omega (arith, len_old, len_new)) (omega arith) in
          let old : get_or (front ++ (middle ++ others)) (length front + (length bytes + j)) 0 ≡ get_or others j 0 = ap (λ (n : ℕ). get_or (front ++ (middle ++ others)) (length front + (n + j)) 0) (sym same_len) ∙ at-third front middle others j in
          rw is (kept ∙ old ∙ sym (at-third front bytes others j))
    ]

-- so many zeros, where others stand
pub zeros-split : (n k : ℕ) → k ≤ n → zeros n ≡ zeros k ++ zeros (n - k)
zeros-split n k le = ap zeros (omega arith) ∙ sym (replicate-append-replicate k (n - k) 0)

-- what a file begins with stays where something is written behind it
pub front-torn : (at n : ℕ) (front rest left : List ℕ) → length front ≡ at → Torn at n (front ++ rest) left → left ≡ front ++ drop (length front) left
front-torn at n front rest left is torn = sym (take-append-drop (length front) left) ∙ ap (λ (t : List ℕ). t ++ drop (length front) left) same
  where
    long : length front ≤ length left
    long = omega (arith, torn.no_shorter, length-append front rest)

    same : take (length front) left ≡ front
    same = ext_get_or 0 (take (length front) left) front (omega (arith, length-take (length front) left, long)) each
      where
        each : (i : ℕ) → i < length (take (length front) left) → get_or (take (length front) left) i 0 ≡ get_or front i 0
        each i lt =
            let below : i < length front = omega (arith, length-take (length front) left) in
            get_or-take (length front) left i 0 below ∙ torn.below i (omega (arith, length-append front rest)) (omega arith) ∙ get_or_append_left front rest 0 i below

-- what a file begins with stays where it is cut behind it
pub front-cut : (n : ℕ) (front rest left : List ℕ) → length front ≡ n → Cut n (front ++ rest) left → left ≡ front ++ drop (length front) left
front-cut n front rest left is cut = sym (take-append-drop (length front) left) ∙ ap (λ (t : List ℕ). t ++ drop (length front) left) same
  where
    long : length front ≤ length left
    long = omega (arith, cut.no_shorter, is, length-append front rest)

    same : take (length front) left ≡ front
    same = ext_get_or 0 (take (length front) left) front (omega (arith, length-take (length front) left, long)) each
      where
        each : (i : ℕ) → i < length (take (length front) left) → get_or (take (length front) left) i 0 ≡ get_or front i 0
        each i lt =
            let below : i < length front = omega (arith, length-take (length front) left) in
            get_or-take (length front) left i 0 below ∙ cut.below i (omega (arith, length-append front rest)) (omega (arith, is)) ∙ get_or_append_left front rest 0 i below

-- a file of which so much is known, behind which bytes were written
pub grown : (front rest bytes seen : List ℕ) → Torn (length front) (length bytes) (front ++ rest) seen → (0 < length bytes → Holds seen (length front) bytes) → seen ≡ (front ++ bytes) ++ drop (length front + length bytes) seen
grown front rest bytes seen torn holds = sym (take-append-drop (length front + length bytes) seen) ∙ ap (λ (t : List ℕ). t ++ drop (length front + length bytes) seen) same
  where
    long : length front + length bytes ≤ length seen
    long = elim (cases_lt 0 (length bytes)) [
      | inl some ↦ (holds some).within
      | inr none ↦ omega (arith, torn.no_shorter, length-append front rest)
    ]

    len : length (take (length front + length bytes) seen) ≡ length front + length bytes
    len = omega (arith, length-take (length front + length bytes) seen, long)

    same : take (length front + length bytes) seen ≡ front ++ bytes
    same = ext_get_or 0 (take (length front + length bytes) seen) (front ++ bytes) (omega (arith, len, length-append front bytes)) each
      where
        each : (i : ℕ) → i < length (take (length front + length bytes) seen) → get_or (take (length front + length bytes) seen) i 0 ≡ get_or (front ++ bytes) i 0
        each i within =
            let taken : get_or (take (length front + length bytes) seen) i 0 ≡ get_or seen i 0 = get_or-take (length front + length bytes) seen i 0 (omega (arith, len)) in
            elim (place (length front) (length bytes) i) [
              | in_front lt ↦ taken ∙ torn.below i (omega (arith, length-append front rest)) lt ∙ get_or_append_left front rest 0 i lt ∙ sym (at-front front bytes i lt)
              | at_place j lt is ↦
                  let here : get_or seen (length front + j) 0 ≡ get_or bytes j 0 = (holds (omega arith)).each j lt in
                  taken ∙ ap (λ (k : ℕ). get_or seen k 0) is ∙ here ∙ sym (get_or-append-add front bytes j 0) ∙ ap (λ (k : ℕ). get_or (front ++ bytes) k 0) (sym is)
              | behind j is ↦ absurd (omega (arith, len))
            ]

-- the same, where the bytes are zeros
pub zeros-grown : (front rest seen : List ℕ) (n : ℕ) → Torn (length front) n (front ++ rest) seen → (0 < n → Holds seen (length front) (zeros n)) → seen ≡ (front ++ zeros n) ++ drop (length front + n) seen
zeros-grown front rest seen n torn holds =
    let len : length (zeros n) ≡ n = length-replicate {A = ℕ} n 0 in
    grown front rest (zeros n) seen (subst (λ (k : ℕ). Torn (length front) k (front ++ rest) seen) (sym len) torn) (λ some. holds (omega (arith, len)))
    ∙ ap (λ (k : ℕ). (front ++ zeros n) ++ drop (length front + k) seen) len

-- a write within what a file begins with
pub mixed-front : (at : ℕ) (bytes front rest left : List ℕ) → at + length bytes ≤ length front → Mixed at bytes (front ++ rest) left → Mixed at bytes front (take (length front) left)
mixed-front at bytes front rest left within mixed = record {
  torn = record {
    no_shorter = omega (arith, len);
    no_longer = omega (arith, len);
    below = λ i lt before. get_or-take (length front) left i 0 lt ∙ mixed.torn.below i (omega (arith, all)) before ∙ get_or_append_left front rest 0 i lt;
    above = λ i lt behind. get_or-take (length front) left i 0 lt ∙ mixed.torn.above i (omega (arith, all)) behind ∙ get_or_append_left front rest 0 i lt;
  };
  each = λ i lt inside.
      elim (mixed.each i lt (omega (arith, all))) [
        | inl same ↦ inl (get_or-take (length front) left (at + i) 0 inside ∙ same ∙ get_or_append_left front rest 0 (at + i) inside)
        | inr written ↦ inr (get_or-take (length front) left (at + i) 0 inside ∙ written)
      ];
}
  where
    all : length (front ++ rest) ≡ length front + length rest
    all = length-append front rest

    len : length (take (length front) left) ≡ length front
    len = omega (arith, length-take (length front) left, mixed.torn.no_shorter, all)

module _ (front bytes : List ℕ) (n : ℕ) (room : length bytes ≤ n) where
  length-old : length (front ++ zeros n) ≡ length front + n
  length-old = omega (arith, length-append front (zeros n), length-replicate {A = ℕ} n 0)

  length-new : length (front ++ (bytes ++ zeros (n - length bytes))) ≡ length front + n
  length-new = omega (arith, length-append front (bytes ++ zeros (n - length bytes)), length-append bytes (zeros (n - length bytes)), length-replicate {A = ℕ} (n - length bytes) 0)

  -- a crash may lose what was written
  pub lost_after : (synced : ℕ) (before left : List ℕ) → synced ≤ length front → MayLose synced (front ++ zeros n) before → Mixed (length front) bytes before left → MayLose synced (front ++ (bytes ++ zeros (n - length bytes))) left
  lost_after synced before left less loss mixed = record {
    len = omega (arith, mixed.torn.no_shorter, mixed.torn.no_longer, loss.len, length-old, length-new);
    same = λ i lt.
        mixed.torn.below i (omega (arith, loss.len, length-old)) (omega arith)
        ∙ loss.same i lt
        ∙ at-front front (zeros n) i (omega arith)
        ∙ sym (at-front front (bytes ++ zeros (n - length bytes)) i (omega arith));
    each = each;
  }
    where
      each : (i : ℕ) → i < length (front ++ (bytes ++ zeros (n - length bytes))) → (get_or left i 0 ≡ get_or (front ++ (bytes ++ zeros (n - length bytes))) i 0) ⊎ (get_or left i 0 ≡ 0)
      each i within = elim (place (length front) (length bytes) i) [
        | in_front lt ↦
            let kept : get_or left i 0 ≡ get_or before i 0 = mixed.torn.below i (omega (arith, loss.len, length-old)) lt in
            elim (loss.each i (omega (arith, length-old))) [
              | inl same ↦ inl (kept ∙ same ∙ at-front front (zeros n) i lt ∙ sym (at-front front (bytes ++ zeros (n - length bytes)) i lt))
              | inr none ↦ inr (kept ∙ none)
            ]
        | at_place j lt is ↦
            let was : get_or before (length front + j) 0 ≡ 0 = was_zero (length front + j) j refl (omega arith) in
            rw is (elim (mixed.each j lt (omega (arith, loss.len, length-old))) [
              | inl kept ↦ inr (kept ∙ was)
              | inr written ↦ inl (written ∙ sym (at-second front bytes (zeros (n - length bytes)) j lt))
            ])
        | behind j is ↦
            let kept : get_or left (length front + (length bytes + j)) 0 ≡ get_or before (length front + (length bytes + j)) 0 = mixed.torn.above (length front + (length bytes + j)) (omega (arith, loss.len, length-old, length-new)) (omega arith) in
            rw is (inr (kept ∙ was_zero (length front + (length bytes + j)) (length bytes + j) refl (omega (arith, length-new))))
      ]
        where
          was_zero : (k j : ℕ) → k ≡ length front + j → j < n → get_or before k 0 ≡ 0
          was_zero k j is lt =
              let none : get_or (front ++ zeros n) k 0 ≡ 0 = rw is (get_or-append-add front (zeros n) j 0 ∙ zeros-at n j) in
              elim (loss.each k (omega (arith, length-old))) [ inl same ↦ same ∙ none | inr lost ↦ lost ]
