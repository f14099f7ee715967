-- The bytes of a tail up to the last that is not 0.
use Rattle.std.proofs.Common.{◌≡◌, ◌≢◌, ◌⊎◌, ℕ, ◌+◌, ◌-◌, ◌<◌, ◌≤◌, List, length, arith, subst, sym, inl, inr}
use Rattle.std.proofs.Math.Nat.{eq-or-lt_of_le}
use Rattle.std.specs.Prelude.{slice_index}
use Rattle.journal_folders.specs.ReadJournal.{IsUpToLast}

-- the same of the bytes that were looked at so far
pub record IsTornSoFar (tail : List ℕ) (upto torn : ℕ) : Type 0 where
  pub within : torn ≤ upto
  pub last : 0 < torn → slice_index tail (torn - 1) ≢ 0
  pub zeros : (i : ℕ) → torn ≤ i → i < upto → slice_index tail i ≡ 0

pub torn-none : (tail : List ℕ) → IsTornSoFar tail 0 0
torn-none tail = record { within = omega arith; last = λ some. absurd (omega (arith, some)); zeros = λ i from upto. absurd (omega (arith, upto)) }

pub torn-more : (tail : List ℕ) (upto torn now : ℕ) → now ≡ upto + 1 → slice_index tail upto ≢ 0 → IsTornSoFar tail now now
torn-more tail upto torn now is some = record {
  within = omega arith;
  last = λ _. subst (λ (i : ℕ). slice_index tail i ≢ 0) (omega (arith, is)) some;
  zeros = λ i from before. absurd (omega (arith, from, before));
}

pub torn-same : (tail : List ℕ) (upto torn : ℕ) → IsTornSoFar tail upto torn → slice_index tail upto ≡ 0 → IsTornSoFar tail (upto + 1) torn
torn-same tail upto torn so_far none = record {
  within = omega (arith, so_far.within);
  last = so_far.last;
  zeros = λ i from before. at i from (eq-or-lt_of_le (omega (arith, before)));
}
  where
    at : (i : ℕ) → torn ≤ i → (i ≡ upto) ⊎ (i < upto) → slice_index tail i ≡ 0
    at i from (inr earlier) = so_far.zeros i from earlier
    at i from (inl here) = subst (λ (k : ℕ). slice_index tail k ≡ 0) (sym here) none

pub torn-all : (tail : List ℕ) (torn : ℕ) → IsTornSoFar tail (length tail) torn → IsUpToLast tail torn
torn-all tail torn so_far = record { within = so_far.within; last = so_far.last; zeros = so_far.zeros }
