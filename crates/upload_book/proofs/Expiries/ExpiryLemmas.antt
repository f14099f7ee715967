-- Lists of uploads that expire: their order, and what they have after a change.
use Rattle.std.proofs.Common.{◌≡◌, ◌≢◌, ℕ, zero, suc, ◌+◌, ◌<◌, ◌≤◌, true, false, List, [], ◌∷◌, length, get_or, inl, inr, sym, ap, ◌∙◌, subst, arith}
use Rattle.std.specs.Prelude.{nat_le}
use Rattle.std.specs.List.{All, AllPairs, Contains, insert, remove}
use Rattle.std.specs.List.Sorted.{IsPartitionPoint, IsPartitionedBy}
use Rattle.std.proofs.lemmas.Bool.{cases_lt, false≢true}
use Rattle.std.proofs.lemmas.Bool.Decides.{nat_tests}
use Rattle.std.proofs.lemmas.List.Edits.{get_or-remove_below, get_or-remove_above, length-remove}
use Rattle.std.proofs.lemmas.List.Elements.{All-cons, Contains-get_or}
use Rattle.std.proofs.lemmas.List.Kept.{AllPairs-cons}
use Rattle.std.proofs.lemmas.List.Sorted.{All-permutation, IsPermutation-insert}
use Rattle.upload_book.specs.declared.expiry_list.Expiring.{Expiring}
use Rattle.upload_book.specs.ExpiryList.{comes_before, IsAscending}

-- none comes before itself
pub before-self : (x : Expiring) → comes_before x x ≡ false
before-self x = grind (arith, nat_tests)

-- what comes before one that comes before another comes before that
pub before-trans : (x y z : Expiring) → comes_before x y ≡ true → comes_before y z ≡ true → comes_before x z ≡ true
before-trans x y z first second = grind (arith, nat_tests)

-- of two that differ in a number one comes before the other
before-numbers : (x y : Expiring) → comes_before x y ≡ false → comes_before y x ≡ false → (x.at ≡ y.at) × (x.name.tenant ≡ y.name.tenant) × (x.name.id ≡ y.name.id)
before-numbers x y first second = (grind (arith, nat_tests), grind (arith, nat_tests), grind (arith, nat_tests))

expiring : ℕ → ℕ → ℕ → Expiring
expiring at tenant id = record { at = at; name = record { tenant = tenant; id = id } }

-- where neither comes before the other, they are one
pub before-neither : (x y : Expiring) → comes_before x y ≡ false → comes_before y x ≡ false → x ≡ y
unfolding expiring
before-neither x y first second =
    let same = before-numbers x y first second in
    ap (λ at. expiring at x.name.tenant x.name.id) same.0
    ∙ ap (λ tenant. expiring y.at tenant x.name.id) same.1
    ∙ ap (λ id. expiring y.at y.name.tenant id) same.2

-- of two that differ one comes before the other
pub before-other : (x y : Expiring) → x ≢ y → comes_before x y ≡ false → comes_before y x ≡ true
before-other x y other fails = grind (arith, before-neither x y fails, other)

module _ {X : Type 0} (R : X → X → Type 0) where
  -- the first of a list stands so to the others,
  pub pairs-head : (x : X) (xs : List X) → AllPairs R (x ∷ xs) → All (R x) xs
  pairs-head x xs pairs = λ k d within. pairs 0 (suc k) d (omega arith) (omega arith)

  -- and they to each other
  pub pairs-tail : (x : X) (xs : List X) → AllPairs R (x ∷ xs) → AllPairs R xs
  pairs-tail x xs pairs = λ i j d below within. pairs (suc i) (suc j) d (omega arith) (omega arith)

  -- one more, between those that stand so to it and those to which it does
  pub AllPairs-insert : (xs : List X) (i : ℕ) (y : X) → AllPairs R xs → i ≤ length xs → ((k : ℕ) (d : X) → k < i → R (get_or xs k d) y) → ((k : ℕ) (d : X) → i ≤ k → k < length xs → R y (get_or xs k d)) → AllPairs R (insert xs i y)
  AllPairs-insert xs zero y pairs within before after = AllPairs-cons R y xs (λ k d inside. after k d (omega arith) inside) pairs
  AllPairs-insert [] (suc i) y pairs within before after = absurd (omega arith)
  AllPairs-insert (x ∷ xs) (suc i) y pairs within before after =
      AllPairs-cons R x (insert xs i y)
      (All-permutation (R x) (y ∷ xs) (insert xs i y) (IsPermutation-insert xs i y) (All-cons (R x) y xs (before 0 x (omega arith)) (pairs-head x xs pairs)))
      (AllPairs-insert xs i y (pairs-tail x xs pairs) (omega arith) (λ k d below. before (suc k) d (omega arith)) (λ k d from inside. after (suc k) d (omega arith) (omega arith)))

-- those that come before one stand before the others
pub before-parts : (list : List Expiring) (x : Expiring) → IsAscending list → IsPartitionedBy (λ y. comes_before y x) list
before-parts list x ascending = λ i j d below within passes. elim (cases_lt i j) [
  | inl less ↦ before-trans (get_or list i d) (get_or list j d) x (ascending i j d less within) passes
  | inr same ↦ subst (λ k. comes_before (get_or list k d) x ≡ true) (equal i j below same) passes
]
  where
    equal : (i j : ℕ) → i ≤ j → j ≤ i → j ≡ i
    equal i j a b = omega arith

-- what comes before another expires no later
pub before-at : (x y : Expiring) → comes_before x y ≡ true → x.at ≤ y.at
before-at x y first = grind (arith, nat_tests)

-- those that expire until a moment stand before the others
pub until-parts : (list : List Expiring) (now : ℕ) → IsAscending list → IsPartitionedBy (λ y. nat_le y.at now) list
until-parts list now ascending = λ i j d below within passes. elim (cases_lt i j) [
  | inl less ↦
      let later = before-at (get_or list i d) (get_or list j d) (ascending i j d less within) in
      grind (arith, nat_tests)
  | inr same ↦ subst (λ k. nat_le (get_or list k d).at now ≡ true) (equal i j below same) passes
]
  where
    equal : (i j : ℕ) → i ≤ j → j ≤ i → j ≡ i
    equal i j a b = omega arith

-- the place of one in a list
abbrev pub IsPlace : List Expiring → Expiring → ℕ → Type 0
IsPlace list x i = IsPartitionPoint (λ y. comes_before y x ≡ true) (λ y. comes_before y x ≡ false) list i

-- a list with one more at its place is in order
pub ascending-insert : (list : List Expiring) (x : Expiring) (i : ℕ) → IsAscending list → i ≤ length list → IsPlace list x i → (Contains list x → ⊥) → IsAscending (insert list i x)
ascending-insert list x i ascending within place new =
    AllPairs-insert (λ x y. comes_before x y ≡ true) list i x ascending within
    (λ k d below. place.0 k d (omega arith) below)
    (λ k d from inside. before-other (get_or list k d) x (λ same. new (subst (Contains list) same (Contains-get_or list k d inside))) (place.1 k d from inside))

-- one that is in a list stands at its place
pub place-itself : (list : List Expiring) (x : Expiring) (i : ℕ) → IsAscending list → IsPlace list x i → (there : Contains list x) → there.0 ≡ i
place-itself list x i ascending place there =
    let k = there.0 in
    elim (cases_lt k i) [
      | inl below ↦ absurd (false≢true (sym (before-self x) ∙ ap (λ y. comes_before y x) (sym there.2) ∙ place.0 k x (omega arith) below))
      | inr from ↦ elim (cases_lt i k) [
        | inl above ↦ absurd (false≢true (sym (place.1 i x (omega arith) (omega (arith, there.1, above))) ∙ ap (λ y. comes_before (get_or list i x) y) (sym there.2) ∙ ascending i k x above there.1))
        | inr back ↦ equal k i back from
      ]
    ]
  where
    equal : (i j : ℕ) → i ≤ j → j ≤ i → i ≡ j
    equal i j a b = omega arith

-- without its place it is gone
pub gone-remove : (list : List Expiring) (x : Expiring) (i : ℕ) → IsAscending list → i < length list → get_or list i x ≡ x → Contains (remove list i) x → ⊥
gone-remove list x i ascending within here again =
    let k = again.0 in
    let shorter = length-remove list i within in
    elim (cases_lt k i) [
      | inl below ↦
          let same : get_or list k x ≡ x = sym (get_or-remove_below list i x k below within) ∙ again.2 in
          false≢true (sym (before-self x) ∙ ap (λ y. comes_before y x) (sym same) ∙ ap (λ y. comes_before (get_or list k x) y) (sym here) ∙ ascending k i x below within)
      | inr from ↦
          let same : get_or list (k + 1) x ≡ x = sym (get_or-remove_above list i x k from within) ∙ again.2 in
          false≢true (sym (before-self x) ∙ ap (λ y. comes_before y x) (sym here) ∙ ap (λ y. comes_before (get_or list i x) y) (sym same) ∙ ascending i (k + 1) x (omega (arith, from)) (omega (arith, shorter, again.1)))
    ]

-- so it is what stands there
pub at-place : (list : List Expiring) (x : Expiring) (i : ℕ) → IsAscending list → IsPlace list x i → Contains list x → (i < length list) × (get_or list i x ≡ x)
at-place list x i ascending place there =
    let same = place-itself list x i ascending place there in
    (subst (λ k. k < length list) same there.1, subst (λ k. get_or list k x ≡ x) same there.2)
