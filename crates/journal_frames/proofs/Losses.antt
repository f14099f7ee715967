-- Bytes that were lost: each is as it was written, or 0.
use Rattle.std.proofs.Common.{◌≡◌, ℕ, zero, suc, ◌+◌, ◌≤◌, List, [], ◌∷◌, ◌++◌, length, get_or, take, drop, sum, refl, ap, arith, inl, inr}
use Rattle.std.specs.Int.{w64, from_be_bytes}
use Rattle.std.proofs.lemmas.List.Sums.{sum_by-cons}
use Rattle.journal_frames.specs.Crash.{Loses, zeros}

pub loses-append : (xs ys zs : List ℕ) → Loses (xs ++ ys) zs → Loses xs (take (length xs) zs) × Loses ys (drop (length xs) zs)
loses-append [] ys zs h = (tt, h)
loses-append (x ∷ xs) ys [] h = absurd h
loses-append (x ∷ xs) ys (z ∷ zs) h = let rest = loses-append xs ys zs h.1 in ((h.0, rest.0), rest.1)

-- the first so many, and the others
pub loses-parts : (n : ℕ) (xs zs : List ℕ) → Loses xs zs → Loses (take n xs) (take n zs) × Loses (drop n xs) (drop n zs)
loses-parts zero xs zs h = (tt, h)
loses-parts (suc n) [] [] h = (tt, tt)
loses-parts (suc n) [] (z ∷ zs) h = absurd h
loses-parts (suc n) (x ∷ xs) [] h = absurd h
loses-parts (suc n) (x ∷ xs) (z ∷ zs) h = let rest = loses-parts n xs zs h.1 in ((h.0, rest.0), rest.1)

pub loses-length : (xs zs : List ℕ) → Loses xs zs → length zs ≡ length xs
loses-length [] [] h = refl
loses-length [] (z ∷ zs) h = absurd h
loses-length (x ∷ xs) [] h = absurd h
loses-length (x ∷ xs) (z ∷ zs) h = ap suc (loses-length xs zs h.1)

pub loses-at : (xs zs : List ℕ) → Loses xs zs → (i : ℕ) → get_or zs i 0 ≤ get_or xs i 0
loses-at [] [] h i = omega arith
loses-at [] (z ∷ zs) h i = absurd h
loses-at (x ∷ xs) [] h i = absurd h
loses-at (x ∷ xs) (z ∷ zs) h zero = elim h.0 [ inl same ↦ omega arith | inr none ↦ omega arith ]
loses-at (x ∷ xs) (z ∷ zs) h (suc i) = loses-at xs zs h.1 i

-- a number of eight bytes is not higher
pub loses-number : (xs zs : List ℕ) → Loses xs zs → from_be_bytes w64 zs ≤ from_be_bytes w64 xs
loses-number xs zs h =
    let each = loses-at xs zs h in
    omega (arith, each 0, each 1, each 2, each 3, each 4, each 5, each 6, each 7)

-- nor is a sum
pub loses-sum : (xs zs : List ℕ) → Loses xs zs → sum zs ≤ sum xs
loses-sum [] [] h = omega arith
loses-sum [] (z ∷ zs) h = absurd h
loses-sum (x ∷ xs) [] h = absurd h
loses-sum (x ∷ xs) (z ∷ zs) h =
    let rest = loses-sum xs zs h.1 in
    let a : sum (x ∷ xs) ≡ x + sum xs = sum_by-cons (λ x. x) x xs in
    let b : sum (z ∷ zs) ≡ z + sum zs = sum_by-cons (λ x. x) z zs in
    elim h.0 [ inl same ↦ omega arith | inr none ↦ omega arith ]

-- and where the sum is the same, nothing was lost
pub loses-nothing : (xs zs : List ℕ) → Loses xs zs → sum zs ≡ sum xs → zs ≡ xs
loses-nothing [] [] h same = refl
loses-nothing [] (z ∷ zs) h same = absurd h
loses-nothing (x ∷ xs) [] h same = absurd h
loses-nothing (x ∷ xs) (z ∷ zs) h same =
    let rest : sum zs ≤ sum xs = loses-sum xs zs h.1 in
    let a : sum (x ∷ xs) ≡ x + sum xs = sum_by-cons (λ x. x) x xs in
    let b : sum (z ∷ zs) ≡ z + sum zs = sum_by-cons (λ x. x) z zs in
    let first : z ≡ x = elim h.0 [ inl is ↦ is | inr none ↦ omega arith ] in
    let others : zs ≡ xs = loses-nothing xs zs h.1 (omega arith) in
    λ i. first i ∷ others i

-- zeros have nothing to lose
pub loses-zeros : (n : ℕ) (zs : List ℕ) → Loses (zeros n) zs → zs ≡ zeros n
loses-zeros zero [] h = refl
loses-zeros zero (z ∷ zs) h = absurd h
loses-zeros (suc n) [] h = absurd h
loses-zeros (suc n) (z ∷ zs) h =
    let first : z ≡ 0 = elim h.0 [ inl is ↦ is | inr none ↦ none ] in
    let others : zs ≡ zeros n = loses-zeros n zs h.1 in
    λ i. first i ∷ others i
