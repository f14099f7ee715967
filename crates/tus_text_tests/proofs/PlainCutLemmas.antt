-- What the plain programs stand on that find the parts of a text by their numbers.
use Rattle.std.proofs.Common.{◌≡◌, ℕ, zero, suc, ◌+◌, ◌-◌, ◌<◌, ◌≤◌, Bool, not, List, [], ◌∷◌, length, drop, Some, None, slice_get, inl, inr, refl, sym, ap, ◌∙◌, arith}
use Rattle.std.specs.List.{slice_split, position_or_len, before_first, after_first}
use Rattle.std.proofs.lemmas.Bool.{cases_lt}
use Rattle.std.proofs.lemmas.List.{take_all}
use Rattle.std.proofs.lemmas.List.Sums.{prefix_len-le-length}
use Rattle.std.proofs.lemmas.List.Splits.{slice_split_first}
use Rattle.tus_text.proofs.PositionLemmas.{slice_split-one}

pub position-le : (test : ℕ → Bool) (text : List ℕ) → position_or_len test text ≤ length text
position-le test text = prefix_len-le-length (λ b. not (test b)) text

-- the part with number 0
pub first-part : (test : ℕ → Bool) (text : List ℕ) → slice_get (slice_split test text) 0 ≡ Some (before_first test text)
first-part test text = elim (cases_lt (position_or_len test text) (length text)) [
  | inl within ↦ ap (λ parts. slice_get parts 0) (slice_split_first test text 0 within)
  | inr none ↦
      ap (λ parts. slice_get parts 0) (slice_split-one test text none)
      ∙ ap Some (sym (take_all (position_or_len test text) text none))
]

-- a text with no mark has no other
pub later-part-none : (test : ℕ → Bool) (text : List ℕ) (number : ℕ) → 0 < number → length text ≤ position_or_len test text → slice_get (slice_split test text) number ≡ None
later-part-none test text zero later none = absurd (omega arith)
later-part-none test text (suc n) later none = ap (λ parts. slice_get parts (suc n)) (slice_split-one test text none)

-- and the others are those of what follows the mark
pub later-part : (test : ℕ → Bool) (text : List ℕ) (number : ℕ) → 0 < number → position_or_len test text < length text → slice_get (slice_split test text) number ≡ slice_get (slice_split test (after_first test text)) (number - 1)
later-part test text zero later within = absurd (omega arith)
later-part test text (suc n) later within =
    let before : suc n - 1 ≡ n = omega arith in
    ap (λ parts. slice_get parts (suc n)) (slice_split_first test text 0 within)
    ∙ ap (slice_get (slice_split test (after_first test text))) (sym before)

-- a list from a place on, by what is at the place
pub drop-at : {A : Type 0} (items : List A) (place : ℕ) (item : A) → slice_get items place ≡ Some item → drop place items ≡ item ∷ drop (place + 1) items
drop-at [] place item is = cc
drop-at (first ∷ items) zero item is = cc
drop-at (first ∷ items) (suc n) item is =
    let after : suc n + 1 ≡ suc (n + 1) = omega arith in
    rw after (drop-at items n item is)

pub drop-past : {A : Type 0} (items : List A) (place : ℕ) → slice_get items place ≡ None → drop place items ≡ []
drop-past [] zero is = refl
drop-past [] (suc n) is = refl
drop-past (first ∷ items) zero is = cc
drop-past (first ∷ items) (suc n) is = drop-past items n is
