-- What the plain program of concat texts stands on: the cuts of a list at its spaces, one at a time.
use Rattle.std.proofs.Common.{◌≡◌, ℕ, ◌+◌, ◌<◌, ◌≤◌, ◌==◌, ◌&&◌, true, false, List, [], ◌∷◌, length, drop, Some, is_some, slice_get, ◌⊎◌, inl, inr, refl, sym, ap, ◌∙◌, append-nil, arith}
use Rattle.std.specs.List.{slice_split}
use Rattle.std.specs.Option.{option_and_then}
use Rattle.std.proofs.lemmas.Bool.{cases_lt, and_parts, and_from, eqb-true, eq-eqb, false≢true}
use Rattle.std.proofs.lemmas.List.{drop_all, length-drop, nil_from_length}
use Rattle.std.proofs.lemmas.List.Splits.{length-slice_split}
use Rattle.std.proofs.lemmas.List.Sums.{count_by-le-length}
use Rattle.std.proofs.lemmas.Option.{slice_get-get_or, slice_get_past}
use Rattle.tus_text.specs.declared.concat.PartPath.{PartPath}
use Rattle.tus_text.specs.Cut.{is_space}
use Rattle.tus_text.specs.Concat.{join_cuts, within_limit}
use Rattle.tus_text.proofs.ConcatLemmas.{join_cuts-empty, join_cuts-word, joined, within-fits}
use Rattle.tus_text_tests.proofs.PlainCutLemmas.{drop-at}

pub length-cuts : (list : List ℕ) → length (slice_split is_space list) ≤ length list + 1
length-cuts list = omega (arith, length-slice_split is_space list, count_by-le-length is_space list)

more-inside : (cuts : List (List ℕ)) (place : ℕ) → is_some (slice_get cuts place) ≡ true → place < length cuts
more-inside cuts place more = elim (cases_lt place (length cuts)) [
  | inl within ↦ within
  | inr past ↦ absurd (false≢true (sym (ap is_some (slice_get_past cuts place past)) ∙ more))
]

-- an empty cut that another follows
pub cuts-passed : (cuts : List (List ℕ)) (place : ℕ) (word : List ℕ) → slice_get cuts place ≡ Some word → (length word == 0 && is_some (slice_get cuts (place + 1))) ≡ true → join_cuts (drop place cuts) ≡ join_cuts (drop (place + 1) cuts)
cuts-passed cuts place word is passed =
    let tests = and_parts _ _ passed in
    let empty = nil_from_length word (eqb-true (length word) 0 tests.0) in
    let within = more-inside cuts (place + 1) tests.1 in
    ap join_cuts (drop-at cuts place word is ∙ ap (λ bytes. bytes ∷ drop (place + 1) cuts) empty)
    ∙ join_cuts-empty (drop (place + 1) cuts) (omega (arith, length-drop (place + 1) cuts))

join_cuts-taken : (word : List ℕ) (others : List (List ℕ)) → (0 < length word) ⊎ (others ≡ []) → join_cuts (word ∷ others) ≡ word ∷ join_cuts others
join_cuts-taken word [] last = refl
join_cuts-taken word (next ∷ more) (inl some) = join_cuts-word word (next ∷ more) some (omega arith)
join_cuts-taken word (next ∷ more) (inr none) = cc

-- and any other
pub cuts-taken : (cuts : List (List ℕ)) (place : ℕ) (word : List ℕ) → slice_get cuts place ≡ Some word → (length word == 0 && is_some (slice_get cuts (place + 1))) ≡ false → join_cuts (drop place cuts) ≡ word ∷ join_cuts (drop (place + 1) cuts)
cuts-taken cuts place word is taken =
    let last : (0 < length word) ⊎ (drop (place + 1) cuts ≡ []) = elim (cases_lt 0 (length word)) [
      | inl some ↦ inl some
      | inr empty ↦ elim (cases_lt (place + 1) (length cuts)) [
        | inl within ↦
            let passed = and_from _ _ (eq-eqb (length word) 0 (omega arith)) (ap is_some (slice_get-get_or cuts (place + 1) [] within)) in
            absurd (false≢true (sym taken ∙ passed))
        | inr past ↦ inr (drop_all (place + 1) cuts past)
      ]
    ] in
    ap join_cuts (drop-at cuts place word is) ∙ join_cuts-taken word (drop (place + 1) cuts) last

-- the parts where no cut is left
pub all-taken : (parts : List PartPath) → length parts ≤ 32 → option_and_then within_limit (joined parts (Some [])) ≡ Some parts
all-taken parts fits = ap within_limit (append-nil parts) ∙ within-fits parts fits
