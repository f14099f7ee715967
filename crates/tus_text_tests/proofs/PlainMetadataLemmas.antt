-- What the plain program of metadata stands on: the spaces round a pair, the cut of a pair at each
-- place, and the pairs from a place on.
use Rattle.std.proofs.Common.{◌≡◌, ℕ, suc, ◌+◌, ◌<◌, ◌≤◌, ◌==◌, ◌&&◌, ◌||◌, Bool, true, false, not, List, [], ◌∷◌, ◌++◌, length, take, drop, get_or, reverse, nat_lt, zero, subst, inl, inr, refl, sym, ap, ◌∙◌, arith}
use Rattle.std.specs.List.{list_all, position_or_len}
use Rattle.std.proofs.lemmas.Bool.{cases_Bool, cases_lt, cases_eq, eqb-true, eq-eqb, ne_eqb, and_parts, and_from, ltb-true, lt-ltb, not-true, false≢true}
use Rattle.std.proofs.lemmas.Bool.Decides.{nat_tests}
use Rattle.std.proofs.lemmas.List.{reverse-append, reverse-reverse, take_more, take_all, length-take-le, length-map, get_or-take}
use Rattle.std.proofs.lemmas.List.Recursion.{and_at, and_from_places}
use Rattle.std.proofs.lemmas.List.Splits.{length-slice_split}
use Rattle.std.proofs.lemmas.List.Sums.{count_by-le-length, position_or_len_is, fails_before_first, passes_at_first}
use Rattle.tus_text.specs.Cut.{is_space, skip_spaces, trim_spaces}
use Rattle.tus_text.proofs.MetadataLemmas.{keys_of}
use Rattle.tus_text.specs.Metadata.{is_comma, pairs_of, key_of, is_value, is_pair}

-- a space at the front goes
pub trim-front : (text : List ℕ) → 0 < length text → get_or text 0 0 ≡ 32 → trim_spaces (drop 1 text) ≡ trim_spaces text
unfolding trim_spaces
trim-front [] some first = absurd (omega arith)
trim-front (b ∷ text) some first =
    let space : is_space b ≡ true = eq-eqb b 32 first in
    rw space refl

-- the first byte is no space
abbrev BeginsOther : List ℕ → Type 0
BeginsOther text = (0 < length text) × (is_space (get_or text 0 0) ≡ false)

skip-other : (text : List ℕ) → BeginsOther text → skip_spaces text ≡ text
skip-other [] other = absurd (omega arith)
skip-other (b ∷ text) other = rw other.1 refl

begins-append : (front : List ℕ) (last : ℕ) → BeginsOther front → BeginsOther (front ++ last ∷ [])
begins-append [] last other = absurd (omega arith)
begins-append (b ∷ front) last other = (omega arith, other.1)

trim-append-space : (front : List ℕ) → BeginsOther front → trim_spaces (front ++ 32 ∷ []) ≡ trim_spaces front
unfolding trim_spaces
trim-append-space front other =
    ap (λ bytes. reverse (skip_spaces (reverse bytes))) (skip-other (front ++ 32 ∷ []) (begins-append front 32 other))
    ∙ ap (λ bytes. reverse (skip_spaces bytes)) (reverse-append front (32 ∷ []))
    ∙ sym (ap (λ bytes. reverse (skip_spaces (reverse bytes))) (skip-other front other))

trim-append-other : (front : List ℕ) (last : ℕ) → BeginsOther (front ++ last ∷ []) → is_space last ≡ false → trim_spaces (front ++ last ∷ []) ≡ front ++ last ∷ []
unfolding trim_spaces
trim-append-other front last other ends =
    ap (λ bytes. reverse (skip_spaces (reverse bytes))) (skip-other (front ++ last ∷ []) other)
    ∙ ap (λ bytes. reverse (skip_spaces bytes)) (reverse-append front (last ∷ []))
    ∙ ap reverse (skip-other (last ∷ reverse front) (omega arith, ends))
    ∙ ap reverse (sym (reverse-append front (last ∷ [])))
    ∙ reverse-reverse (front ++ last ∷ [])

-- all but the last byte, and the last byte
parts-at-last : (text : List ℕ) (last : ℕ) → last + 1 ≡ length text → text ≡ take last text ++ get_or text last 0 ∷ []
parts-at-last text last is =
    sym (take_all (last + 1) text (omega arith)) ∙ take_more text last 0 (omega arith)

first-of-front : (text : List ℕ) (last : ℕ) → 0 < last → last < length text → is_space (get_or text 0 0) ≡ false → BeginsOther (take last text)
first-of-front [] last some within other = absurd (omega arith)
first-of-front (b ∷ text) zero some within other = absurd (omega arith)
first-of-front (b ∷ text) (suc n) some within other = (omega arith, other)

-- a space at the end goes, where the first byte is none
pub trim-back : (text : List ℕ) (last : ℕ) → last + 1 ≡ length text → (get_or text 0 0 ≡ 32 → ⊥) → get_or text last 0 ≡ 32 → trim_spaces (take last text) ≡ trim_spaces text
trim-back text last is first ends =
    let parts = parts-at-last text last is ∙ ap (λ b. take last text ++ b ∷ []) ends in
    let some : 0 < last = elim (cases_eq last 0) [
      | inl none ↦ absurd (first (ap (λ n. get_or text n 0) (sym none) ∙ ends))
      | inr other ↦ omega arith
    ] in
    let front = first-of-front text last some (omega arith) (ne_eqb (get_or text 0 0) 32 first) in
    sym (ap trim_spaces parts ∙ trim-append-space (take last text) front)

-- and a text between other bytes stays
pub trim-none : (text : List ℕ) (last : ℕ) → last + 1 ≡ length text → (get_or text 0 0 ≡ 32 → ⊥) → (get_or text last 0 ≡ 32 → ⊥) → trim_spaces text ≡ text
trim-none text last is first ends =
    let parts = parts-at-last text last is in
    let other : BeginsOther text = (omega arith, ne_eqb (get_or text 0 0) 32 first) in
    ap trim_spaces parts
    ∙ trim-append-other (take last text) (get_or text last 0) (subst BeginsOther parts other) (ne_eqb (get_or text last 0) 32 ends)
    ∙ sym parts

pub trim-nil : trim_spaces [] ≡ []
unfolding trim_spaces
trim-nil = refl

-- there are at most as many pairs as bytes, and one more
pub length-pairs : (text : List ℕ) → length (pairs_of text) ≤ length text + 1
length-pairs text =
    simp length-map (omega (arith, length-slice_split is_comma text, count_by-le-length is_comma text))

-- one byte or more, and no space
abbrev pub is_key : List ℕ → Bool
is_key text = nat_lt 0 (length text) && list_all (λ b. not (is_space b)) text

pair-at : (pair : List ℕ) (place : ℕ) → position_or_len is_space pair ≡ place → is_pair pair ≡ (nat_lt 0 (length (take place pair)) && (length (take place pair) == length pair || is_value (drop (place + 1) pair)))
pair-at pair place is =
    ap (λ n. nat_lt 0 (length (take n pair)) && (length (take n pair) == length pair || is_value (drop (n + 1) pair))) is

key-no_space : (text : List ℕ) (i : ℕ) → list_all (λ b. not (is_space b)) text ≡ true → i < length text → is_space (get_or text i 0) ≡ false
key-no_space text i all within = not-true _ (and_at (list_all (λ b. not (is_space b))) (λ b. not (is_space b)) refl (λ _ _. refl) text i 0 within all)

key-from : (text : List ℕ) → ((i : ℕ) → i < length text → is_space (get_or text i 0) ≡ false) → list_all (λ b. not (is_space b)) text ≡ true
key-from text none = and_from_places (λ bs. list_all (λ b. not (is_space b)) bs) (λ b. not (is_space b)) refl (λ _ _. refl) text 0 (λ i within. ap not (none i within))

-- the first space of a pair with such a cut
cut-place : (pair : List ℕ) (place : ℕ) → place < length pair → list_all (λ b. not (is_space b)) (take place pair) ≡ true → get_or pair place 0 ≡ 32 → position_or_len is_space pair ≡ place
cut-place pair place within all space =
    position_or_len_is is_space pair place 0 (omega arith)
    (λ k before.
    let short : k < length (take place pair) = omega (arith, length-take-le place pair (omega arith)) in
    rw (sym (get_or-take place pair k 0 before)) (key-no_space (take place pair) k all short))
    (λ _. eq-eqb (get_or pair place 0) 32 space)

tests-cut : (n len : ℕ) (value : Bool) → 0 < n → value ≡ true → (nat_lt 0 n && (n == len || value)) ≡ true
tests-cut n len value some is = rw is (grind (arith, nat_tests))

-- such a cut makes a pair
pub pair-cut : (pair : List ℕ) (place : ℕ) → place < length pair → is_key (take place pair) ≡ true → get_or pair place 0 ≡ 32 → is_value (drop (place + 1) pair) ≡ true → is_pair pair ≡ true
pair-cut pair place within key space value =
    let tests = and_parts _ _ key in
    pair-at pair place (cut-place pair place within tests.1 space)
    ∙ tests-cut (length (take place pair)) (length pair) (is_value (drop (place + 1) pair)) (ltb-true _ _ tests.0) value

-- a pair with a space
space-inside : (pair : List ℕ) (place : ℕ) → position_or_len is_space pair ≡ place → place < length pair → is_key pair ≡ false
space-inside pair place is within =
    let space = passes_at_first is_space pair 0 (rw is within) in
    elim (cases_Bool (is_key pair)) [
      | inl key ↦ absurd (false≢true (sym (key-no_space pair place (and_parts _ _ key).1 within) ∙ ap (λ n. is_space (get_or pair n 0)) (sym is) ∙ space))
      | inr other ↦ other
    ]

tests-none : (n len : ℕ) (value : Bool) → n < len → (0 < n → value ≡ false) → false ≡ (nat_lt 0 n && (n == len || value))
tests-none n len value within never = elim (cases_lt 0 n) [
  | inl some ↦ rw (never some) (grind (arith, nat_tests))
  | inr none ↦ grind (arith, nat_tests)
]

pair-key-inside : (pair : List ℕ) (place : ℕ) → position_or_len is_space pair ≡ place → place < length pair → (is_key (take place pair) ≡ true → is_value (drop (place + 1) pair) ≡ true → ⊥) → is_key pair ≡ is_pair pair
pair-key-inside pair place is within never =
    let len = length-take-le place pair (omega arith) in
    let value : 0 < length (take place pair) → is_value (drop (place + 1) pair) ≡ false = λ some.
    let key : is_key (take place pair) ≡ true = and_from _ _ (lt-ltb _ _ some) (key-from (take place pair) (λ i short.
    let before : i < place = omega arith in
    rw (get_or-take place pair i 0 before) (fails_before_first is_space pair i 0 (rw is before)))) in
    elim (cases_Bool (is_value (drop (place + 1) pair))) [ inl is_one ↦ absurd (never key is_one) | inr none ↦ none ] in
    space-inside pair place is within
    ∙ tests-none (length (take place pair)) (length pair) (is_value (drop (place + 1) pair)) (omega arith) value
    ∙ sym (pair-at pair place is)

tests-whole : (n : ℕ) (value all : Bool) → all ≡ true → (nat_lt 0 n && all) ≡ (nat_lt 0 n && (n == n || value))
tests-whole n value all is = rw is (grind (arith, nat_tests))

-- and one without any is a key
pub pair-key : (pair : List ℕ) → ((k : ℕ) → k < length pair → is_key (take k pair) ≡ true → get_or pair k 0 ≡ 32 → is_value (drop (k + 1) pair) ≡ true → ⊥) → is_key pair ≡ is_pair pair
pair-key pair never =
    let place = position_or_len is_space pair in
    elim (cases_lt place (length pair)) [
      | inl within ↦
          let space = eqb-true (get_or pair place 0) 32 (passes_at_first is_space pair 0 within) in
          pair-key-inside pair place refl within (λ key value. never place within key space value)
      | inr none ↦
          let all = key-from pair (λ i short. fails_before_first is_space pair i 0 (omega arith)) in
          let whole = take_all place pair none in
          tests-whole (length pair) (is_value (drop (place + 1) pair)) (list_all (λ b. not (is_space b)) pair) all
          ∙ sym (pair-at pair place refl ∙ ap (λ text. nat_lt 0 (length text) && (length text == length pair || is_value (drop (place + 1) pair))) whole)
    ]

-- as many keys as pairs
pub length-keys : (text : List ℕ) → length (keys_of text) ≤ length text + 1
length-keys text = omega (arith, length-map (pairs_of text) key_of, length-pairs text)
