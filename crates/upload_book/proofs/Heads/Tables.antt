-- Tables of 16 terms, one for each tenant that there may be.
use Rattle.std.proofs.Common.{◌≡◌, ◌≢◌, ℕ, ◌+◌, ◌<◌, ◌≤◌, List, map, length, get_or, set, inl, inr, ap, sym, ◌∙◌, arith}
use Rattle.std.specs.List.{range_with_len}
use Rattle.std.proofs.lemmas.Bool.Decides.{eqb_tells}
use Rattle.std.proofs.lemmas.List.{get_or-set_same, get_or-set_other, same_lists}
use Rattle.std.proofs.lemmas.List.FromFn.{get_or-map-range_with_len}
use Rattle.std.proofs.Math.ListN.{length-set}

-- a table that is told up to a place, with one more term
pub told-more : (f : ℕ → ℕ) (charges : List ℕ) (t x : ℕ) → length charges ≡ 16 → t < 16 → x ≡ f t → ((k d : ℕ) → k < t → get_or charges k d ≡ f k) → (k d : ℕ) → k < t + 1 → get_or (set charges t x) k d ≡ f k
told-more f charges t x sixteen within is before k d below =
    elim (eqb_tells k t) [
      | inl same ↦ ap (λ k. get_or (set charges t x) k d) same.1 ∙ get_or-set_same charges t x d (omega (arith, sixteen, within)) ∙ is ∙ ap f (sym same.1)
      | inr differs ↦ get_or-set_other charges t k x d differs.1 ∙ before k d (less differs.1)
    ]
  where
    less : (k ≡ t → ⊥) → k < t
    less differs = omega (arith, below, differs)

-- and at its end
pub told-all : (f : ℕ → ℕ) (charges : List ℕ) (t : ℕ) → length charges ≡ 16 → 16 ≤ t → ((k d : ℕ) → k < t → get_or charges k d ≡ f k) → charges ≡ map f (range_with_len 0 16)
told-all f charges t sixteen past told =
    same_lists charges (map f (range_with_len 0 16)) sixteen (λ k d below.
    let within : k < 16 = omega (arith, below, sixteen) in
    told k d (omega (arith, within, past)) ∙ sym (get_or-map-range_with_len f 0 16 k k d within (omega arith)))

-- a table of 16 terms of which one changes
pub table-set : (f g : ℕ → ℕ) (t x : ℕ) → t < 16 → g t ≡ x → ((k : ℕ) → k ≢ t → g k ≡ f k) → set (map f (range_with_len 0 16)) t x ≡ map g (range_with_len 0 16)
table-set f g t x within here others =
    same_lists (set (map f (range_with_len 0 16)) t x) (map g (range_with_len 0 16)) (length-set (map f (range_with_len 0 16)) t x) (λ k d below.
    let inside : k < 16 = omega (arith, below, length-set (map f (range_with_len 0 16)) t x) in
    elim (eqb_tells k t) [
      | inl same ↦ ap (λ k. get_or (set (map f (range_with_len 0 16)) t x) k d) same.1 ∙ get_or-set_same (map f (range_with_len 0 16)) t x d within ∙ sym here ∙ ap g (sym same.1) ∙ sym (get_or-map-range_with_len g 0 16 k k d inside (omega arith))
      | inr differs ↦ get_or-set_other (map f (range_with_len 0 16)) t k x d differs.1 ∙ get_or-map-range_with_len f 0 16 k k d inside (omega arith) ∙ sym (others k differs.1) ∙ sym (get_or-map-range_with_len g 0 16 k k d inside (omega arith))
    ])
