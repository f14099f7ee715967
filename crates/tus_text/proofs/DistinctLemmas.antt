-- That texts are distinct is true of each order of them, and is seen at the neighbours of sorted ones.
use Rattle.std.proofs.Common.{◌≡◌, ℕ, ◌+◌, ◌<◌, ◌||◌, Bool, true, false, List, [], ◌∷◌, map, length, get_or, IsPermutation, IsSorted, Bor, Ordering, Less, Equal, Greater, nat_cmp, is_eq, is_lt, inl, inr, refl, sym, ap, ◌∙◌, ap₂, subst, true≢false, arith}
use Rattle.std.specs.Cmp.Lexicographic.{slice_cmp}
use Rattle.std.specs.List.{list_any, IsDistinct, AllByRecursion}
use Rattle.std.specs.Ordering.{ordering_reverse}
use Rattle.std.specs.Str.{bytes_eq}
use Rattle.std.proofs.lemmas.Bool.{cases_Bool}
use Rattle.std.proofs.lemmas.Cmp.{nat_list_cmp_total, nat_list_eq_equiv}
use Rattle.std.proofs.lemmas.List.{get_or-map, length-map}
use Rattle.std.proofs.lemmas.List.Sorted.{IsPermutation-map, IsPermutation-sym}
use Rattle.std.proofs.lemmas.Map.Keys.{IsDistinct-head, IsDistinct-tail, IsDistinct-IsPermutation, IsDistinct-from_sorted, apart_from_distinct, sorted_from_all_adjacent}
use Rattle.std.proofs.lemmas.Map.Text.{is_eq-slice_cmp}
use Rattle.tus_text.specs.Metadata.{are_distinct}

-- a key, as the code holds it
abbrev pub Key : Type 0
Key = Bor (List ℕ)

abbrev pub texts_of : List Key → List (List ℕ)
texts_of keys = map (λ key. key.now) keys

none-by_recursion : (test : List ℕ → Bool) (texts : List (List ℕ)) → list_any test texts ≡ false → AllByRecursion (λ text. test text ≡ false) texts
none-by_recursion test [] none = tt
none-by_recursion test (text ∷ texts) none = elim (cases_Bool (test text)) [
  | inl passes ↦ absurd (true≢false (sym (ap (λ first. first || list_any test texts) passes) ∙ none))
  | inr other ↦ (other, none-by_recursion test texts (sym (ap (λ first. first || list_any test texts) other) ∙ none))
]

none-any : (test : List ℕ → Bool) (texts : List (List ℕ)) → AllByRecursion (λ text. test text ≡ false) texts → list_any test texts ≡ false
none-any test [] none = refl
none-any test (text ∷ texts) none = ap (λ first. first || list_any test texts) none.0 ∙ none-any test texts none.1

-- in std's word
IsDistinct-told : (texts : List (List ℕ)) → are_distinct texts ≡ true → IsDistinct bytes_eq texts
unfolding IsDistinct
IsDistinct-told [] told = tt
IsDistinct-told (text ∷ texts) told = elim (cases_Bool (list_any (bytes_eq text) texts)) [
  | inl again ↦ absurd (true≢false (sym (rw again at told)))
  | inr none ↦ (none-by_recursion (bytes_eq text) texts none, IsDistinct-told texts (rw none at told))
]

distinct-told : (texts : List (List ℕ)) → IsDistinct bytes_eq texts → are_distinct texts ≡ true
distinct-told [] distinct = refl
distinct-told (text ∷ texts) distinct =
    rw (none-any (bytes_eq text) texts (IsDistinct-head bytes_eq text texts distinct)) (distinct-told texts (IsDistinct-tail bytes_eq text texts distinct))

same-answer : (a b : Bool) → (a ≡ true → b ≡ true) → (b ≡ true → a ≡ true) → a ≡ b
same-answer true b there back = sym (there refl)
same-answer false true there back = back refl
same-answer false false there back = refl

moved-distinct : (texts moved : List (List ℕ)) → IsPermutation texts moved → are_distinct texts ≡ true → are_distinct moved ≡ true
moved-distinct texts moved moves distinct =
    distinct-told moved (IsDistinct-IsPermutation bytes_eq nat_list_eq_equiv.symm texts moved moves (IsDistinct-told texts distinct))

-- the order does not matter
pub distinct-moved : (keys moved : List Key) → IsPermutation keys moved → are_distinct (texts_of moved) ≡ are_distinct (texts_of keys)
distinct-moved keys moved moves =
    let there = IsPermutation-map (λ key. key.now) keys moved moves in
    let back = IsPermutation-sym (texts_of keys) (texts_of moved) there in
    same-answer _ _ (moved-distinct (texts_of moved) (texts_of keys) back) (moved-distinct (texts_of keys) (texts_of moved) there)

-- the keys at i and j differ
abbrev pub DifferAt : List Key → ℕ → ℕ → Type 0
DifferAt keys i j = (d : Key) → bytes_eq (get_or keys i d).now (get_or keys j d).now ≡ false

-- equal keys at two places
pub not-distinct : (keys : List Key) (i j : ℕ) (d : Key) → i < j → j < length keys → bytes_eq (get_or keys i d).now (get_or keys j d).now ≡ true → are_distinct (texts_of keys) ≡ false
not-distinct keys i j d less within equal = elim (cases_Bool (are_distinct (texts_of keys))) [
  | inl distinct ↦
      let inside : j < length (texts_of keys) = omega (arith, length-map keys (λ (key : Key). key.now)) in
      let differ = apart_from_distinct bytes_eq (texts_of keys) i j [] (IsDistinct-told (texts_of keys) distinct) less inside in
      let at = ap₂ bytes_eq (get_or-map (λ key. key.now) keys i d [] (omega arith)) (get_or-map (λ key. key.now) keys j d [] within) in
      absurd (true≢false (sym equal ∙ sym at ∙ differ))
  | inr repeated ↦ repeated
]

only-less : (o p : Ordering) → o ≡ ordering_reverse p → is_lt p ≡ false → is_eq o ≡ false → o ≡ Less
only-less o Less flips up differ = cc
only-less o Equal flips up differ = let tie = ap is_eq (sym flips) ∙ differ in cc
only-less o Greater flips up differ = flips

-- sorted keys of which no neighbours are equal
pub sorted-distinct : (keys : List Key) → IsSorted (λ a b. slice_cmp nat_cmp a.now b.now) keys → ((k : ℕ) → k + 1 < length keys → DifferAt keys k (k + 1)) → are_distinct (texts_of keys) ≡ true
sorted-distinct [] sorted differ = refl
sorted-distinct (key ∷ others) sorted differ =
    let keys = key ∷ others in
    let rises : (k : ℕ) → k + 1 < length (texts_of keys) → slice_cmp nat_cmp (get_or (texts_of keys) k []) (get_or (texts_of keys) (k + 1) []) ≡ Less =
    λ k more.
    let within : k + 1 < length keys = omega (arith, length-map keys (λ (x : Key). x.now)) in
    let a = (get_or keys k key).now in
    let b = (get_or keys (k + 1) key).now in
    ap₂ (slice_cmp nat_cmp) (get_or-map (λ x. x.now) keys k key [] (omega arith)) (get_or-map (λ x. x.now) keys (k + 1) key [] within)
    ∙ only-less (slice_cmp nat_cmp a b) (slice_cmp nat_cmp b a) (nat_list_cmp_total.antisymm a b) (sorted k key (omega arith) within) (is_eq-slice_cmp a b ∙ differ k within key) in
    let risen = sorted_from_all_adjacent nat_list_cmp_total (texts_of keys) [] rises in
    distinct-told (texts_of keys) (subst (λ test. IsDistinct test (texts_of keys)) (λ i a b. is_eq-slice_cmp a b i) (IsDistinct-from_sorted (slice_cmp nat_cmp) (texts_of keys) risen))
