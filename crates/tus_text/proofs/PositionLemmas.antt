-- What `position` answered, as `position_or_len`: the first place that passes, or the length. And a
-- text with no such place, cut there.
use Rattle.std.proofs.Common.{◌≡◌, ℕ, ◌<◌, ◌≤◌, Bool, not, cond, ltb, List, [], ◌∷◌, length, Option, Some, None, unwrap_or, inl, inr, refl, ap, ◌∙◌, arith}
use Rattle.std.specs.List.{position_or_len, slice_split, onto_first}
use Rattle.std.proofs.lemmas.Bool.{cases_Bool, cases_lt, lt-ltb, le-ltb}
use Rattle.std.proofs.lemmas.Bool.Decides.{nat_tests}
use Rattle.std.proofs.lemmas.List.Splits.{slice_split-cons_no}
use Rattle.std.proofs.lemmas.List.Sums.{prefix_len-le-length}

pub record IsFound (test : ℕ → Bool) (text : List ℕ) (i : ℕ) : Type 0 where
  pub place : position_or_len test text ≡ i
  pub within : i < length text

answer-some : (n m i : ℕ) → Some i ≡ cond (ltb n m) (Some n) None → (n ≡ i) × (i < m)
answer-some n m i e = grind (arith, nat_tests)

answer-none : (n m : ℕ) → n ≤ m → None ≡ cond (ltb n m) (Some n) None → n ≡ m
answer-none n m h e = grind (arith, nat_tests)

pub position-found : (test : ℕ → Bool) (text : List ℕ) (o : Option ℕ) (i : ℕ) → o ≡ cond (ltb (position_or_len test text) (length text)) (Some (position_or_len test text)) None → o ≡ Some i → IsFound test text i
position-found test text o i answer is =
    let found = answer-some (position_or_len test text) (length text) i (rw is at answer) in
    record { place = found.0; within = found.1 }

pub position-absent : (test : ℕ → Bool) (text : List ℕ) (o : Option ℕ) → o ≡ cond (ltb (position_or_len test text) (length text)) (Some (position_or_len test text)) None → o ≡ None → position_or_len test text ≡ length text
position-absent test text o answer is =
    answer-none (position_or_len test text) (length text) (prefix_len-le-length (λ b. not (test b)) text) (rw is at answer)

answer-or_len : (n m : ℕ) → n ≤ m → unwrap_or (cond (ltb n m) (Some n) None) m ≡ n
answer-or_len n m h = elim (cases_lt n m) [ inl lt ↦ rw (lt-ltb _ _ lt) refl | inr ge ↦ rw (le-ltb _ _ ge) (omega arith) ]

pub position-or_len : (test : ℕ → Bool) (text : List ℕ) (o : Option ℕ) → o ≡ cond (ltb (position_or_len test text) (length text)) (Some (position_or_len test text)) None → unwrap_or o (length text) ≡ position_or_len test text
position-or_len test text o answer =
    rw answer (answer-or_len (position_or_len test text) (length text) (prefix_len-le-length (λ b. not (test b)) text))

-- where no element passes, the cut gives one part
pub slice_split-one : (test : ℕ → Bool) (text : List ℕ) → length text ≤ position_or_len test text → slice_split test text ≡ text ∷ []
slice_split-one test [] none = refl
slice_split-one test (b ∷ text) none = elim (cases_Bool (test b)) [
  | inl passes ↦ absurd (omega (arith, rw passes at none))
  | inr other ↦
      let rest : length text ≤ position_or_len test text = omega (arith, rw other at none) in
      slice_split-cons_no test b text other ∙ ap (onto_first b) (slice_split-one test text rest)
]
