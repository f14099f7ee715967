-- Sums over the numbers below an end, and over lists.
use Rattle.std.proofs.Common.{◌≡◌, ◌≢◌, ℕ, zero, suc, ◌+◌, ◌-◌, ◌<◌, ◌≤◌, List, [], ◌∷◌, length, get_or, refl, inl, inr, ap, sym, ◌∙◌, arith}
use Rattle.std.specs.List.{remove, sum_by, All, range_with_len}
use Rattle.std.proofs.lemmas.Bool.Decides.{nat_tests, eqb_tells}
use Rattle.std.proofs.lemmas.List.Elements.{All-head, All-tail}
use Rattle.std.proofs.lemmas.Bool.{cases_lt}
use Rattle.std.proofs.lemmas.List.Edits.{get_or-remove_below, get_or-remove_above, length-remove}
use Rattle.std.proofs.lemmas.List.Sums.{get_or-le-sum_by, sum_by-cons, sum_by-remove}
use Rattle.upload_book.specs.Charge.{sum_below}
use Rattle.upload_book.specs.Stored.{some_of}

-- terms that are equal have equal sums
pub sum_below-same : (n : ℕ) (f g : ℕ → ℕ) → ((b : ℕ) → b < n → f b ≡ g b) → sum_below n f ≡ sum_below n g
sum_below-same zero f g same = refl
sum_below-same (suc n) f g same =
    let rest : sum_below n f ≡ sum_below n g = sum_below-same n f g (λ b l. same b (omega arith)) in
    omega (arith, rest, same n (omega arith))

-- the sum of two terms each is the sum of two sums
pub sum_below-add : (n : ℕ) (f g h : ℕ → ℕ) → ((b : ℕ) → b < n → f b ≡ g b + h b) → sum_below n f ≡ sum_below n g + sum_below n h
sum_below-add zero f g h same = refl
sum_below-add (suc n) f g h same =
    let rest : sum_below n f ≡ sum_below n g + sum_below n h = sum_below-add n f g h (λ b l. same b (omega arith)) in
    omega (arith, rest, same n (omega arith))

-- the sum of nothing
pub sum_below-none : (n : ℕ) (f : ℕ → ℕ) → ((b : ℕ) → b < n → f b ≡ 0) → sum_below n f ≡ 0
sum_below-none zero f none = refl
sum_below-none (suc n) f none =
    let rest : sum_below n f ≡ 0 = sum_below-none n f (λ b l. none b (omega arith)) in
    omega (arith, rest, none n (omega arith))

-- the sum of ones
pub sum_below-ones : (n : ℕ) (f : ℕ → ℕ) → ((b : ℕ) → b < n → f b ≡ 1) → sum_below n f ≡ n
sum_below-ones zero f ones = refl
sum_below-ones (suc n) f ones =
    let rest : sum_below n f ≡ n = sum_below-ones n f (λ b l. ones b (omega arith)) in
    omega (arith, rest, ones n (omega arith))

-- the sum of one term, at a number below the end
pub sum_below-one : (n a m : ℕ) (f : ℕ → ℕ) → a < n → f a ≡ m → ((b : ℕ) → b ≢ a → f b ≡ 0) → sum_below n f ≡ m
sum_below-one zero a m f l here others = absurd (omega arith)
sum_below-one (suc n) a m f l here others = elim (eqb_tells n a) [
  | inl same ↦
      let rest : sum_below n f ≡ 0 = sum_below-none n f (λ b below. others b (omega (arith, same.1))) in
      omega (arith, rest, here, ap f same.1)
  | inr differs ↦
      let rest : sum_below n f ≡ m = sum_below-one n a m f (omega (arith, differs.1)) here others in
      omega (arith, rest, others n differs.1)
]

-- sums over numbers and over a list change places
pub sum_below-sum_by : {X : Type 0} (n : ℕ) (f : ℕ → X → ℕ) (xs : List X) → sum_below n (λ b. sum_by (f b) xs) ≡ sum_by (λ x. sum_below n (λ b. f b x)) xs
sum_below-sum_by n f [] = sum_below-none n (λ b. 0) (λ b l. refl)
sum_below-sum_by n f (x ∷ xs) =
    sum_below-add n _ (λ b. f b x) (λ b. sum_by (f b) xs) (λ b l. sum_by-cons (f b) x xs)
    ∙ ap (λ k. sum_below n (λ b. f b x) + k) (sum_below-sum_by n f xs)
    ∙ sym (sum_by-cons (λ x. sum_below n (λ b. f b x)) x xs)

-- the first term apart
pub sum_below-first : (n : ℕ) (f : ℕ → ℕ) → sum_below (suc n) f ≡ f 0 + sum_below n (λ b. f (suc b))
sum_below-first zero f = omega arith
sum_below-first (suc n) f = omega (arith, sum_below-first n f)

-- the sum over the numbers of a range
pub sum_by-range : (n a : ℕ) (f : ℕ → ℕ) → sum_by f (range_with_len a n) ≡ sum_below n (λ b. f (a + b))
sum_by-range zero a f = refl
sum_by-range (suc n) a f =
    let rest : sum_by f (range_with_len (a + 1) n) ≡ sum_below n (λ b. f (a + suc b)) =
    sum_by-range n (a + 1) f ∙ sum_below-same n (λ b. f (a + 1 + b)) (λ b. f (a + suc b)) (λ b l. ap f (omega arith)) in
    let first : f (a + 0) ≡ f a = ap f (omega arith) in
    omega (arith, rest, first, sum_by-cons f a (range_with_len (a + 1) n), sum_below-first n (λ b. f (a + b)))

-- terms that are equal at each element have equal sums
pub sum_by-same : {X : Type 0} (f g : X → ℕ) (xs : List X) → All (λ x. f x ≡ g x) xs → sum_by f xs ≡ sum_by g xs
sum_by-same f g [] same = refl
sum_by-same f g (x ∷ xs) same =
    omega (
      arith,
      sum_by-cons f x xs,
      sum_by-cons g x xs,
      All-head (λ x. f x ≡ g x) x xs same,
      sum_by-same f g xs (All-tail (λ x. f x ≡ g x) x xs same),
    )

-- none of nothing
pub some_of-none : (n : ℕ) → n ≡ 0 → some_of n ≡ 0
some_of-none n none = grind (arith, nat_tests)

-- some of more than nothing
pub some_of-some : (n : ℕ) → 0 < n → some_of n ≡ 1
some_of-some n some = grind (arith, nat_tests)

-- at most one
pub some_of-le : (n : ℕ) → some_of n ≤ 1
some_of-le n = grind (arith, nat_tests)

-- none only of nothing
pub some_of-zero : (n : ℕ) → some_of n ≡ 0 → n ≡ 0
some_of-zero n none = grind (arith, nat_tests)

-- where no element has some, all have none
pub sum_by-none : {X : Type 0} (f : X → ℕ) (xs : List X) → sum_by (λ x. some_of (f x)) xs ≡ 0 → sum_by f xs ≡ 0
sum_by-none f [] none = refl
sum_by-none f (x ∷ xs) none =
    let parts : sum_by (λ x. some_of (f x)) (x ∷ xs) ≡ some_of (f x) + sum_by (λ x. some_of (f x)) xs = sum_by-cons (λ x. some_of (f x)) x xs in
    let here : f x ≡ 0 = some_of-zero (f x) (omega arith) in
    let rest : sum_by f xs ≡ 0 = sum_by-none f xs (omega arith) in
    omega (arith, here, rest, sum_by-cons f x xs)

-- where at most one element has some, the sum is some where one has some
pub some_of-sum_by : {X : Type 0} (f : X → ℕ) (xs : List X) → sum_by (λ x. some_of (f x)) xs ≤ 1 → some_of (sum_by f xs) ≡ sum_by (λ x. some_of (f x)) xs
some_of-sum_by f [] few = refl
some_of-sum_by f (x ∷ xs) few =
    let parts : sum_by (λ x. some_of (f x)) (x ∷ xs) ≡ some_of (f x) + sum_by (λ x. some_of (f x)) xs = sum_by-cons (λ x. some_of (f x)) x xs in
    let all : sum_by f (x ∷ xs) ≡ f x + sum_by f xs = sum_by-cons f x xs in
    let rest : some_of (sum_by f xs) ≡ sum_by (λ x. some_of (f x)) xs = some_of-sum_by f xs (omega arith) in
    some_of-both (f x) (sum_by f xs) _ _ _ all rest parts few
  where
    some_of-both : (a b c d e : ℕ) → c ≡ a + b → some_of b ≡ d → e ≡ some_of a + d → e ≤ 1 → some_of c ≡ e
    some_of-both a b c d e all rest parts few = grind (arith, nat_tests)

-- where at most one element has some, one that has some has the whole sum
pub sum_by-alone : {X : Type 0} (f : X → ℕ) (xs : List X) (i : ℕ) (d : X) → i < length xs → sum_by (λ x. some_of (f x)) xs ≤ 1 → 0 < f (get_or xs i d) → sum_by f xs ≡ f (get_or xs i d)
sum_by-alone f xs i d l few some =
    let one : some_of (f (get_or xs i d)) ≡ 1 = some_of-some (f (get_or xs i d)) some in
    let rest : sum_by f (remove xs i) ≡ 0 = sum_by-none f (remove xs i) (omega (arith, one, sum_by-remove (λ x. some_of (f x)) xs i d l)) in
    omega (arith, rest, sum_by-remove f xs i d l)

-- two elements at different places are within the sum
pub two-le-sum_by : {X : Type 0} (f : X → ℕ) (xs : List X) (i k : ℕ) (d : X) → i < length xs → k < length xs → k ≢ i → f (get_or xs i d) + f (get_or xs k d) ≤ sum_by f xs
two-le-sum_by f xs i k d i_in k_in differs = elim (cases_lt k i) [
  | inl below ↦
      let same : f (get_or (remove xs i) k d) ≡ f (get_or xs k d) = ap f (get_or-remove_below xs i d k below i_in) in
      omega (arith, same, sum_by-remove f xs i d i_in, length-remove xs i i_in, get_or-le-sum_by f (remove xs i) k d (omega (arith, length-remove xs i i_in)))
  | inr above ↦
      let back : k - 1 + 1 ≡ k = omega arith in
      let same : f (get_or (remove xs i) (k - 1) d) ≡ f (get_or xs k d) =
      ap f (get_or-remove_above xs i d (k - 1) (omega arith) i_in) ∙ ap (λ n. f (get_or xs n d)) back in
      omega (arith, same, sum_by-remove f xs i d i_in, get_or-le-sum_by f (remove xs i) (k - 1) d (omega (arith, length-remove xs i i_in)))
]
