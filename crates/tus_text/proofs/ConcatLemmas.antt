-- The words of a list of targets, one at a time, and the parts that they name.
use Rattle.std.proofs.Common.{◌≡◌, ℕ, ◌+◌, ◌<◌, ◌≤◌, false, not, List, [], ◌∷◌, ◌++◌, length, Option, Some, None, inl, inr, refl, sym, subst, ap, ◌∙◌, append_assoc, length-append, arith}
use Rattle.std.specs.List.{slice_split, before_first, after_first, position_or_len, prefix_len}
use Rattle.std.specs.Option.{option_map, option_and_then}
use Rattle.std.proofs.lemmas.Bool.{cases_Bool, cases_eq}
use Rattle.std.proofs.lemmas.Bool.Decides.{nat_tests}
use Rattle.std.proofs.lemmas.List.{length-take, length-drop, take_all}
use Rattle.std.proofs.lemmas.List.Folds.{length-prefix_len}
use Rattle.std.proofs.lemmas.List.Splits.{slice_split_first, length-slice_split}
use Rattle.tus_text.specs.declared.concat.PartPath.{PartPath}
use Rattle.tus_text.specs.Cut.{is_space, skip_spaces}
use Rattle.tus_text.proofs.PositionLemmas.{slice_split-one}
use Rattle.tus_text.specs.Concat.{part_of, join_cuts, words_of, parts_of, within_limit}

pub join_cuts-empty : (parts : List (List ℕ)) → 0 < length parts → join_cuts ([] ∷ parts) ≡ join_cuts parts
join_cuts-empty [] some = absurd (omega arith)
join_cuts-empty (part ∷ parts) some = refl

pub join_cuts-word : (word : List ℕ) (parts : List (List ℕ)) → 0 < length word → 0 < length parts → join_cuts (word ∷ parts) ≡ word ∷ join_cuts parts
join_cuts-word [] parts some more = absurd (omega arith)
join_cuts-word (b ∷ word) [] some more = absurd (omega arith)
join_cuts-word (b ∷ word) (part ∷ parts) some more = refl

split-some : (text : List ℕ) → 0 < length (slice_split is_space text)
split-some text = omega (arith, length-slice_split is_space text)

skip-other : (b : ℕ) (text : List ℕ) → is_space b ≡ false → skip_spaces (b ∷ text) ≡ b ∷ text
skip-other b text other = rw other refl

first-other : (b : ℕ) (text : List ℕ) → is_space b ≡ false → 0 < length (before_first is_space (b ∷ text))
first-other b text other =
    let some : 0 < prefix_len (λ x. not (is_space x)) (b ∷ text) = rw other (omega arith) in
    omega (arith, length-prefix_len (λ x. not (is_space x)) (b ∷ text))

-- spaces at the front are passed over
words-skip : (text : List ℕ) → words_of (skip_spaces text) ≡ words_of text
words-skip [] = refl
words-skip (b ∷ text) = elim (cases_Bool (is_space b)) [
  | inl space ↦
      rw space (words-skip text ∙ sym (join_cuts-empty (slice_split is_space text) (split-some text)))
  | inr other ↦ ap words_of (skip-other b text other)
]

-- so a word that more follow is not empty
skip-first : (text : List ℕ) → position_or_len is_space (skip_spaces text) < length (skip_spaces text) → 0 < length (before_first is_space (skip_spaces text))
skip-first [] more = absurd (omega arith)
skip-first (b ∷ text) more = elim (cases_Bool (is_space b)) [
  | inl space ↦ rw space (skip-first text (rw space at more))
  | inr other ↦ subst (λ bytes. 0 < length (before_first is_space bytes)) (sym (skip-other b text other)) (first-other b text other)
]

-- the first word, and the others
pub words-last : (text : List ℕ) → length (before_first is_space (skip_spaces text)) ≡ length (skip_spaces text) → words_of text ≡ before_first is_space (skip_spaces text) ∷ []
words-last text whole =
    let words = skip_spaces text in
    let place = position_or_len is_space words in
    let none : length words ≤ place = omega (arith, length-take place words) in
    sym (words-skip text) ∙ ap join_cuts (slice_split-one is_space words none) ∙ ap (λ word. word ∷ []) (sym (take_all place words none))

pub words-more : (text : List ℕ) → (length (before_first is_space (skip_spaces text)) ≡ length (skip_spaces text) → ⊥) → words_of text ≡ before_first is_space (skip_spaces text) ∷ words_of (after_first is_space (skip_spaces text))
words-more text more =
    let words = skip_spaces text in
    let place = position_or_len is_space words in
    let within : place < length words = omega (arith, length-take place words) in
    sym (words-skip text) ∙ ap join_cuts (slice_split_first is_space words 0 within)
    ∙ join_cuts-word (before_first is_space words) (slice_split is_space (after_first is_space words)) (skip-first text within) (split-some (after_first is_space words))

words-first : (text : List ℕ) → (others : List (List ℕ)) × (words_of text ≡ before_first is_space (skip_spaces text) ∷ others)
words-first text =
    let words = skip_spaces text in
    elim (cases_eq (length (before_first is_space words)) (length words)) [
      | inl whole ↦ ([], words-last text whole)
      | inr more ↦ (words_of (after_first is_space words), words-more text more)
    ]

-- `front`, and the parts that follow
abbrev pub joined : List PartPath → Option (List PartPath) → Option (List PartPath)
joined front parts = option_map (λ more. front ++ more) parts

pub joined-none : (parts : Option (List PartPath)) → joined [] parts ≡ parts
joined-none None = refl
joined-none (Some parts) = refl

-- words whose first target names no part
pub first-none : (front : List PartPath) (words others : List (List ℕ)) (target : List ℕ) → words ≡ target ∷ others → part_of target ≡ None → joined front (parts_of words) ≡ None
first-none front words others target are none =
    ap (λ words. joined front (parts_of words)) are
    ∙ ap (λ part. joined front (option_and_then (λ p. option_map (λ parts. p ∷ parts) (parts_of others)) part)) none

-- a first target that names no part
pub parts-none : (front : List PartPath) (text target : List ℕ) → target ≡ before_first is_space (skip_spaces text) → part_of target ≡ None → joined front (parts_of (words_of text)) ≡ None
parts-none front text target is none =
    let first = words-first text in
    first-none front (words_of text) first.0 target (first.1 ∙ ap (λ word. word ∷ first.0) (sym is)) none

pub within-fits : (parts : List PartPath) → length parts ≤ 32 → within_limit parts ≡ Some parts
within-fits parts fits = grind (arith, nat_tests)

within-past : (parts : List PartPath) → 32 < length parts → within_limit parts ≡ None
within-past parts long = grind (arith, nat_tests)

past-limit : (front : List PartPath) (part : PartPath) (parts : Option (List PartPath)) → 32 ≤ length front → option_and_then within_limit (joined front (option_map (λ more. part ∷ more) parts)) ≡ None
past-limit front part None full = refl
past-limit front part (Some more) full =
    within-past (front ++ part ∷ more) (omega (arith, length-append front (part ∷ more)))

-- one more part than the limit
pub first-full : (front : List PartPath) (words others : List (List ℕ)) (target : List ℕ) (part : PartPath) → words ≡ target ∷ others → part_of target ≡ Some part → 32 ≤ length front → option_and_then within_limit (joined front (parts_of words)) ≡ None
first-full front words others target part are named full =
    ap (λ words. option_and_then within_limit (joined front (parts_of words))) are
    ∙ ap (λ p. option_and_then within_limit (joined front (option_and_then (λ q. option_map (λ parts. q ∷ parts) (parts_of others)) p))) named
    ∙ past-limit front part (parts_of others) full

pub parts-full : (front : List PartPath) (text target : List ℕ) (part : PartPath) → target ≡ before_first is_space (skip_spaces text) → part_of target ≡ Some part → 32 ≤ length front → option_and_then within_limit (joined front (parts_of (words_of text))) ≡ None
parts-full front text target part is named full =
    let first = words-first text in
    first-full front (words_of text) first.0 target part (first.1 ∙ ap (λ word. word ∷ first.0) (sym is)) named full

-- the last part
pub parts-last : (front : List PartPath) (text target : List ℕ) (part : PartPath) → target ≡ before_first is_space (skip_spaces text) → part_of target ≡ Some part → length target ≡ length (skip_spaces text) → joined front (parts_of (words_of text)) ≡ Some (front ++ part ∷ [])
parts-last front text target part is named whole =
    ap (λ words. joined front (parts_of words)) (words-last text (sym (ap length is) ∙ whole) ∙ ap (λ word. word ∷ []) (sym is))
    ∙ ap (λ p. joined front (option_and_then (λ q. option_map (λ parts. q ∷ parts) (Some [])) p)) named

joined-more : (front : List PartPath) (part : PartPath) (parts : Option (List PartPath)) → joined front (option_map (λ more. part ∷ more) parts) ≡ joined (front ++ part ∷ []) parts
joined-more front part None = refl
joined-more front part (Some more) = ap Some (sym (append_assoc front (part ∷ []) more))

pub first-more : (front : List PartPath) (words others : List (List ℕ)) (target : List ℕ) (part : PartPath) → words ≡ target ∷ others → part_of target ≡ Some part → joined front (parts_of words) ≡ joined (front ++ part ∷ []) (parts_of others)
first-more front words others target part are named =
    ap (λ words. joined front (parts_of words)) are
    ∙ ap (λ p. joined front (option_and_then (λ q. option_map (λ parts. q ∷ parts) (parts_of others)) p)) named
    ∙ joined-more front part (parts_of others)

-- a part that more follow
pub parts-more : (front : List PartPath) (text target after : List ℕ) (part : PartPath) → target ≡ before_first is_space (skip_spaces text) → after ≡ after_first is_space (skip_spaces text) → part_of target ≡ Some part → (length target ≡ length (skip_spaces text) → ⊥) → joined front (parts_of (words_of text)) ≡ joined (front ++ part ∷ []) (parts_of (words_of after))
parts-more front text target after part is is_after named more =
    first-more front (words_of text) (words_of after) target part (words-more text (λ whole. more (ap length is ∙ whole)) ∙ (λ i. sym is i ∷ words_of (sym is_after i))) named

length-skip_spaces : (text : List ℕ) → length (skip_spaces text) ≤ length text
length-skip_spaces [] = omega arith
length-skip_spaces (b ∷ text) = elim (cases_Bool (is_space b)) [
  | inl space ↦ rw space (omega (arith, length-skip_spaces text))
  | inr other ↦ rw other (omega arith)
]

-- what follows a word is shorter
pub after-shorter : (text target after : List ℕ) → target ≡ before_first is_space (skip_spaces text) → after ≡ after_first is_space (skip_spaces text) → (length target ≡ length (skip_spaces text) → ⊥) → length after < length text
after-shorter text target after is is_after more =
    let words = skip_spaces text in
    let place = position_or_len is_space words in
    let part : length (before_first is_space words) ≡ length words → ⊥ = λ whole. more (ap length is ∙ whole) in
    rw is_after (omega (arith, length-take place words, length-drop (place + 1) words, length-skip_spaces text))
