-- Parts that are read one after the other, as a loop does.
use Rattle.std.proofs.Common.{◌≡◌, ℕ, suc, ◌-◌, ◌+◌, ◌≤◌, ◌<◌, List, [], ◌∷◌, ◌++◌, Option, Some, None, refl, sym, ap, ◌∙◌, append_assoc, arith}
use Rattle.std.proofs.lemmas.List.{append-nil}
use Rattle.journal_records.specs.Reading.{◌>>=◌, many_at}

module _ {A : Type 0} (read : List ℕ → Option (A × List ℕ)) where
  -- what was read before, and what is still read
  abbrev pub with_front : List A → Option (List A × List ℕ) → Option (List A × List ℕ)
  with_front front found = found >>= λ x. Some (front ++ x.0, x.1)

  regroup : (front : List A) (id : A) (found : Option (List A × List ℕ)) → with_front front (found >>= λ x. Some (id ∷ x.0, x.1)) ≡ with_front (front ++ id ∷ []) found
  regroup front id (Some x) = ap (λ (ids : List A). Some (ids, x.1)) (simp append_assoc)
  regroup front id None = refl

  pub goes_on : (front : List A) (count i : ℕ) (bytes : List ℕ) (id : A) (behind : List ℕ) (total : Option (List A × List ℕ)) → i < count → read bytes ≡ Some (id, behind)
      → with_front front (many_at read (count - i) bytes) ≡ total → with_front (front ++ id ∷ []) (many_at read (count - (i + 1)) behind) ≡ total
  unfolding many_at
  goes_on front count i bytes id behind total lt h so_far =
      let k : count - i ≡ suc (count - (i + 1)) = omega arith in
      let one : with_front front (many_at read (count - i) bytes) ≡ with_front (front ++ id ∷ []) (many_at read (count - (i + 1)) behind) = rw (k, h) (regroup front id (many_at read (count - (i + 1)) behind)) in
      sym one ∙ so_far

  pub ends : (front : List A) (count i : ℕ) (bytes : List ℕ) (total : Option (List A × List ℕ)) → i < count → read bytes ≡ None
      → with_front front (many_at read (count - i) bytes) ≡ total → total ≡ None
  unfolding many_at
  ends front count i bytes total lt h so_far =
      let k : count - i ≡ suc (count - (i + 1)) = omega arith in
      let one : with_front front (many_at read (count - i) bytes) ≡ None = rw (k, h) refl in
      sym so_far ∙ one

  pub is_done : (front : List A) (count i : ℕ) (bytes : List ℕ) (total : Option (List A × List ℕ)) → count ≤ i → with_front front (many_at read (count - i) bytes) ≡ total → total ≡ Some (front, bytes)
  unfolding many_at
  is_done front count i bytes total le so_far =
      let k : count - i ≡ 0 = omega arith in
      let one : with_front front (many_at read (count - i) bytes) ≡ Some (front, bytes) = rw k (ap (λ (ids : List A). Some (ids, bytes)) (append-nil front)) in
      sym so_far ∙ one
