-- The uploads that expire after the end of one changes.
use Rattle.std.proofs.Common.{◌≡◌, ◌≢◌, ◌⊎◌, ℕ, zero, suc, ◌+◌, ◌-◌, ◌<◌, Bool, true, false, cond, List, ◌∷◌, length, get_or, drop, Option, Some, None, refl, inl, inr, sym, ap, ◌∙◌, subst, arith}
use Rattle.std.specs.Prelude.{nat_le}
use Rattle.std.specs.List.{Contains}
use Rattle.std.specs.List.Sorted.{IsPartitionPoint, IsPermutation}
use Rattle.std.proofs.lemmas.Bool.{cases_lt, false≢true}
use Rattle.std.proofs.lemmas.Bool.Decides.{eqb_tells}
use Rattle.std.proofs.lemmas.List.{get_or-drop, length-drop}
use Rattle.std.proofs.lemmas.List.Sorted.{Contains-permutation, IsPermutation-sym}
use Rattle.std.proofs.lemmas.Option.{none-some, same_Some}
use Rattle.upload_book.specs.declared.expiry_list.Expiring.{Expiring}
use Rattle.upload_book.specs.declared.head_row.Name.{Name}
use Rattle.upload_book.specs.Expiry.{has_expired}
use Rattle.upload_book.specs.ExpiryList.{ends_after, is_same_name, with_end, AreExpiring, Ends, IsAscending, KnowsEnd}

module _ {X : Type 0} where
  -- the first of a list is in it,
  pub in-first : (x : X) (list : List X) → Contains (x ∷ list) x
  in-first x list = (0, omega arith, refl)

  -- so is what is in its rest,
  pub in-rest : (y : X) (list : List X) (x : X) → Contains list x → Contains (y ∷ list) x
  in-rest y list x there = (suc there.0, omega (arith, there.1), there.2)

  -- and nothing else
  pub in-cases : (y : X) (list : List X) (x : X) → Contains (y ∷ list) x → (y ≡ x) ⊎ Contains list x
  in-cases y list x (zero, within, is) = inl is
  in-cases y list x (suc k, within, is) = inr (k, omega (arith, within), is)

named : ℕ → ℕ → Name
named tenant id = record { tenant = tenant; id = id }

-- whether two names are one, as a fact
pub same_name-tells : (a b : Name) → ((is_same_name a b ≡ true) × (a ≡ b)) ⊎ ((is_same_name a b ≡ false) × (a ≢ b))
unfolding named
same_name-tells a b = elim (eqb_tells a.tenant b.tenant) [
  | inl tenant ↦ elim (eqb_tells a.id b.id) [
    | inl id ↦ inl (rw (tenant.0, id.0) refl, ap (λ t. named t a.id) tenant.1 ∙ ap (λ i. named b.tenant i) id.1)
    | inr id ↦ inr (rw (tenant.0, id.0) refl, λ same. id.1 (ap (λ (n : Name). n.id) same))
  ]
  | inr tenant ↦ inr (rw tenant.0 refl, λ same. tenant.1 (ap (λ (n : Name). n.tenant) same))
]

-- the name has its new end,
pub with_end-same : (ends : Ends) (name : Name) (end : Option ℕ) → with_end ends name end name ≡ end
with_end-same ends name end = elim (same_name-tells name name) [
  | inl same ↦ rw same.0 refl
  | inr other ↦ absurd (other.1 refl)
]

-- and any other its own
pub with_end-other : (ends : Ends) (name : Name) (end : Option ℕ) (other : Name) → other ≢ name → with_end ends name end other ≡ ends other
with_end-other ends name end other differs = elim (same_name-tells other name) [
  | inl same ↦ absurd (differs same.1)
  | inr apart ↦ rw apart.0 refl
]

-- no end is both none and some
clash : (found : Option ℕ) (at : ℕ) → found ≡ None → found ≡ Some at → ⊥
clash found at none some = none-some at (sym none ∙ some)

abbrev expiring : ℕ → Name → Expiring
expiring at name = record { at = at; name = name }

-- two with one end and one name are one
same_expiring : (x y : Expiring) → x.at ≡ y.at → x.name ≡ y.name → x ≡ y
same_expiring x y at name = ap (λ a. expiring a x.name) at ∙ ap (λ n. expiring y.at n) name

-- the same ends have the same uploads
pub AreExpiring-same : (f g : Ends) (list : List Expiring) → ((name : Name) → f name ≡ g name) → AreExpiring f list → AreExpiring g list
AreExpiring-same f g list same is = record {
  ascending = is.ascending;
  each = λ x. (λ there. sym (same x.name) ∙ (is.each x).0 there, λ told. (is.each x).1 (same x.name ∙ told));
}

module _ (ends : Ends) (x : Expiring) (old new : List Expiring) (is : AreExpiring ends old) (ascending : IsAscending new) where
  -- one more
  pub AreExpiring-more : ends x.name ≡ None → IsPermutation (x ∷ old) new → AreExpiring (with_end ends x.name (Some x.at)) new
  AreExpiring-more none moved =
      record {
        ascending = ascending;
        each = λ y. (
          λ there. elim (in-cases x old y (Contains-permutation new (x ∷ old) y (IsPermutation-sym (x ∷ old) new moved) there)) [
            | inl same ↦ subst (λ (y : Expiring). with_end ends x.name (Some x.at) y.name ≡ Some y.at) same (with_end-same ends x.name (Some x.at))
            | inr before ↦
                with_end-other ends x.name (Some x.at) y.name (λ same. clash (ends x.name) y.at none (ap ends (sym same) ∙ (is.each y).0 before)) ∙ (is.each y).0 before
          ],
          λ told. elim (same_name-tells y.name x.name) [
            | inl same ↦
                let at = same_Some x.at y.at (sym (with_end-same ends x.name (Some x.at)) ∙ ap (with_end ends x.name (Some x.at)) (sym same.1) ∙ told) in
                subst (Contains new) (same_expiring x y at (sym same.1)) (Contains-permutation (x ∷ old) new x moved (in-first x old))
            | inr other ↦
                Contains-permutation (x ∷ old) new y moved (in-rest x old y ((is.each y).1 (sym (with_end-other ends x.name (Some x.at) y.name other.1) ∙ told)))
          ],
        );
      }

  -- one less
  pub AreExpiring-less : ends x.name ≡ Some x.at → IsPermutation old (x ∷ new) → (Contains new x → ⊥) → AreExpiring (with_end ends x.name None) new
  AreExpiring-less some moved gone = record {
    ascending = ascending;
    each = λ y. (
      λ there.
          let told = (is.each y).0 (Contains-permutation (x ∷ new) old y (IsPermutation-sym old (x ∷ new) moved) (in-rest x new y there)) in
          with_end-other ends x.name None y.name (λ same.
          let at = same_Some y.at x.at (sym told ∙ ap ends same ∙ some) in
          gone (subst (Contains new) (same_expiring y x at same) there)) ∙ told,
      λ told. elim (same_name-tells y.name x.name) [
        | inl same ↦
            absurd (clash (with_end ends x.name None x.name) y.at (with_end-same ends x.name None) (ap (with_end ends x.name None) (sym same.1) ∙ told))
        | inr other ↦
            let before = (is.each y).1 (sym (with_end-other ends x.name None y.name other.1) ∙ told) in
            elim (in-cases x new y (Contains-permutation old (x ∷ new) y moved before)) [
              | inl same ↦ absurd (other.1 (ap (λ (x : Expiring). x.name) (sym same)))
              | inr there ↦ there
            ]
      ],
    );
  }

-- the last of two ends of a name counts
pub with_end-twice : (ends : Ends) (name : Name) (first end : Option ℕ) (other : Name) → with_end ends name end other ≡ with_end (with_end ends name first) name end other
with_end-twice ends name first end other = elim (same_name-tells other name) [
  | inl same ↦
      ap (with_end ends name end) same.1 ∙ with_end-same ends name end ∙ sym (with_end-same (with_end ends name first) name end) ∙ ap (with_end (with_end ends name first) name end) (sym same.1)
  | inr apart ↦
      with_end-other ends name end other apart.1 ∙ sym (with_end-other ends name first other apart.1) ∙ sym (with_end-other (with_end ends name first) name end other apart.1)
]

-- a list of exactly those that expire knows the end of each name
pub KnowsEnd-told : (ends : Ends) (name : Name) (end : Option ℕ) (list : List Expiring) → AreExpiring ends list → ends name ≡ end → KnowsEnd list name end
KnowsEnd-told ends name end list is told = λ at. (
  λ there. sym told ∙ (is.each (expiring at name)).0 there,
  λ same. (is.each (expiring at name)).1 (told ∙ same),
)

-- a list without the one that a name had knows no end of it
pub KnowsEnd-left : (old new : List Expiring) (name : Name) (at : ℕ) → KnowsEnd old name (Some at) → IsPermutation old (record { at = at; name = name } ∷ new) → (Contains new (record { at = at; name = name }) → ⊥) → KnowsEnd new name None
KnowsEnd-left old new name at known moved gone = λ other. (
  λ there.
      let same = same_Some at other ((known other).0 (Contains-permutation (record { at = at; name = name } ∷ new) old (record { at = other; name = name }) (IsPermutation-sym old (record { at = at; name = name } ∷ new) moved) (in-rest (record { at = at; name = name }) new (record { at = other; name = name }) there))) in
      absurd (gone (subst (λ at. Contains new (record { at = at; name = name })) (sym same) there)),
  λ told. absurd (none-some other told),
)

-- an end that is later than a moment is one, and has not come then
later-end : (now : ℕ) (end : Option ℕ) (at : ℕ) → cond (has_expired now end) None end ≡ Some at → (end ≡ Some at) × (nat_le at now ≡ false)
later-end now None at told = absurd (none-some at told)
later-end now (Some end) at told = by_test (nat_le end now) refl told
  where
    by_test : (past : Bool) → nat_le end now ≡ past → cond past None (Some end) ≡ Some at → (Some end ≡ Some at) × (nat_le at now ≡ false)
    by_test true is told = absurd (none-some at told)
    by_test false is told = (told, ap (λ e. nat_le e now) (sym (same_Some end at told)) ∙ is)

-- those that have ends later than a moment are left where the others leave the front
pub AreExpiring-after : (ends : Ends) (now count : ℕ) (list : List Expiring) → IsPartitionPoint (λ x. nat_le x.at now ≡ true) (λ x. nat_le x.at now ≡ false) list count → AreExpiring ends list → AreExpiring (ends_after now ends) (drop count list)
AreExpiring-after ends now count list point is = record {
  ascending = λ i j d below within.
      let long = length-drop count list in
      rw (get_or-drop count list i d, get_or-drop count list j d) (is.ascending (count + i) (count + j) d (omega arith) (omega (arith, long, within)));
  each = λ x. (
    λ there.
        let inside : count + there.0 < length list = omega (arith, there.1, length-drop count list) in
        let here : get_or list (count + there.0) x ≡ x = sym (get_or-drop count list there.0 x) ∙ there.2 in
        let told : ends x.name ≡ Some x.at = (is.each x).0 (count + there.0, inside, here) in
        let later : nat_le x.at now ≡ false = ap (λ (x : Expiring). nat_le x.at now) (sym here) ∙ point.1 (count + there.0) x (omega arith) inside in
        rw told (rw later refl),
    λ told.
        let end = later-end now (ends x.name) x.at told in
        let there = (is.each x).1 end.0 in
        elim (cases_lt there.0 count) [
          | inl past ↦ absurd (false≢true (sym end.1 ∙ ap (λ (x : Expiring). nat_le x.at now) (sym there.2) ∙ point.0 there.0 x (omega arith) past))
          | inr left ↦ (there.0 - count, omega (arith, there.1, length-drop count list), get_or-drop count list (there.0 - count) x ∙ ap (λ k. get_or list k x) (omega arith) ∙ there.2)
        ],
  );
}
