-- The pairs of a text, the first and the others, and how many bytes they take.
use Rattle.std.specs.Prelude.{Bool, None, Option, Some, cond, false, find, option_map}
use Rattle.std.proofs.Common.{◌≡◌, ℕ, ◌+◌, ◌<◌, ◌≤◌, true, List, [], ◌∷◌, ◌++◌, map, length, take, Result, Ok, Err, IfOk, IfErr, is_ok, inl, inr, sym, ap, ap₂, ◌∙◌, append_assoc, arith, refl}
use Rattle.std.specs.List.{list_all, before_first, after_first, position_or_len}
use Rattle.std.proofs.lemmas.Bool.{cases_eq, and_parts}
use Rattle.std.proofs.lemmas.List.{length-take, length-drop, take_all, map-append}
use Rattle.std.proofs.lemmas.List.Splits.{slice_split_first}
use Rattle.base64.specs.declared.decode.DecodeError.{DecodeError}
use Rattle.base64.specs.Engines.{standard}
use Rattle.base64.specs.GeneralPurpose.{decode_of, IsDecodedInto}
use Rattle.tus_text.proofs.DistinctLemmas.{Key, texts_of}
use Rattle.tus_text.proofs.PositionLemmas.{slice_split-one}
use Rattle.tus_text.specs.Cut.{trim_spaces}
use Rattle.tus_text.specs.Metadata.{is_comma, is_pair, pairs_of, key_of}

-- what decoding into a buffer told
pub decoded-ok : (text output new : List ℕ) (r : Result ℕ DecodeError) → IfOk r (λ n. IsDecodedInto standard text n output new) → IfErr r (λ e. decode_of standard text ≡ Err e) → is_ok r ≡ is_ok (decode_of standard text)
decoded-ok text output new (Ok n) ok err = sym (ap is_ok ok.0)
decoded-ok text output new (Err e) ok err = sym (ap is_ok err)

-- the keys of the pairs
abbrev pub keys_of : List ℕ → List (List ℕ)
keys_of text = map key_of (pairs_of text)

-- a part that holds a pair has a byte
part-some : (part : List ℕ) → is_pair (trim_spaces part) ≡ true → 0 < length part
unfolding trim_spaces
part-some [] pair = absurd (cc)
part-some (b ∷ part) pair = omega arith

-- ---- a text that is cut at its first comma, or has none

module _ (text part after : List ℕ) (is_part : part ≡ before_first is_comma text) (is_after : after ≡ after_first is_comma text) where
  length-part : length part ≡ length (take (position_or_len is_comma text) text)
  length-part = ap length is_part

  pairs-last : length part ≡ length text → pairs_of text ≡ trim_spaces part ∷ []
  pairs-last whole =
      let place = position_or_len is_comma text in
      let none : length text ≤ place = omega (arith, length-part, length-take place text) in
      ap (map trim_spaces) (slice_split-one is_comma text none) ∙ ap (λ bytes. trim_spaces bytes ∷ []) (sym (is_part ∙ take_all place text none))

  pairs-more : (length part ≡ length text → ⊥) → pairs_of text ≡ trim_spaces part ∷ pairs_of after
  pairs-more more =
      let place = position_or_len is_comma text in
      let within : place < length text = omega (arith, length-part, length-take place text) in
      ap (map trim_spaces) (slice_split_first is_comma text 0 within) ∙ ap₂ (λ first rest. trim_spaces first ∷ pairs_of rest) (sym is_part) (sym is_after)

  pairs-first : (others : List (List ℕ)) × (pairs_of text ≡ trim_spaces part ∷ others)
  pairs-first = elim (cases_eq (length part) (length text)) [
    | inl whole ↦ ([], pairs-last whole)
    | inr more ↦ (pairs_of after, pairs-more more)
  ]

  -- the first pair takes a byte
  pub first-some : list_all is_pair (pairs_of text) ≡ true → (0 < length part) × (length part ≤ length text)
  first-some pairs =
      let place = position_or_len is_comma text in
      let pair = (and_parts (is_pair (trim_spaces part)) (list_all is_pair pairs-first.0) (sym (ap (list_all is_pair) pairs-first.1) ∙ pairs)).0 in
      (part-some part pair, omega (arith, length-part, length-take place text))

  pub after-pairs : (length part ≡ length text → ⊥) → list_all is_pair (pairs_of text) ≡ true → list_all is_pair (pairs_of after) ≡ true
  after-pairs more pairs = (and_parts (is_pair (trim_spaces part)) (list_all is_pair (pairs_of after)) (sym (ap (list_all is_pair) (pairs-more more)) ∙ pairs)).1

  pub after-shorter : (length part ≡ length text → ⊥) → length part + 1 + length after ≡ length text
  after-shorter more =
      let place = position_or_len is_comma text in
      omega (arith, length-part, ap length is_after, length-take place text, length-drop (place + 1) text)

  -- the keys before it, its first key, and those after it
  module _ (keys : List Key) (key : Key) (is_key : key.now ≡ key_of (trim_spaces part)) where
    pub keys-last : length part ≡ length text → texts_of (keys ++ key ∷ []) ≡ texts_of keys ++ keys_of text
    keys-last whole =
        map-append (λ (x : Key). x.now) keys (key ∷ []) ∙ ap (λ more. texts_of keys ++ more) (ap (λ first. first ∷ []) is_key ∙ sym (ap (map key_of) (pairs-last whole)))

    pub keys-more : (length part ≡ length text → ⊥) → texts_of (keys ++ key ∷ []) ++ keys_of after ≡ texts_of keys ++ keys_of text
    keys-more more =
        ap (λ front. front ++ keys_of after) (map-append (λ (x : Key). x.now) keys (key ∷ []))
        ∙ append_assoc (texts_of keys) (key.now ∷ []) (keys_of after)
        ∙ ap (λ rest. texts_of keys ++ rest) (ap (λ first. first ∷ keys_of after) is_key ∙ sym (ap (map key_of) (pairs-more more)))

-- the first element whose image passes a test
pub find-map : {A B : Type 0} (test : B → Bool) (f : A → B) (xs : List A) → find test (map f xs) ≡ option_map f (find (λ x. test (f x)) xs)
find-map test f [] = refl
find-map test f (x ∷ xs) = by (test (f x)) (find-map test f xs)
  where
    by : (b : Bool) → find test (map f xs) ≡ option_map f (find (λ x. test (f x)) xs) → cond b (Some (f x)) (find test (map f xs)) ≡ option_map f (cond b (Some x) (find (λ x. test (f x)) xs))
    by true rest = refl
    by false rest = rest

-- one function after another on what may be there
pub map-twice : {A B C : Type 0} (f : B → C) (g : A → B) (x : Option A) → option_map (λ y. f (g y)) x ≡ option_map f (option_map g x)
map-twice f g None = refl
map-twice f g (Some x) = refl
