-- What a queue keeps as a key comes and as one goes.
use Rattle.std.specs.Prelude.{◌≡◌, ℕ, cond, ◌<◌, ◌++◌, true, false, Bool, not, ◌&&◌, ◌||◌, List, [], ◌∷◌, drop, length, nat_eq, refl}
use Rattle.std.specs.List.{AllByRecursion, IsDistinct}
use Rattle.std.proofs.Common.{◌∙◌, ap, arith, inl, inr, subst, sym}
use Rattle.std.proofs.lemmas.Bool.{cases_eq, eqb-true, false≢true}
use Rattle.std.proofs.lemmas.Bool.Decides.{nat_tests}
use Rattle.std.proofs.lemmas.Cmp.{nat_eq_equiv}
use Rattle.std.proofs.lemmas.List.{length_push}
use Rattle.std.proofs.lemmas.Map.Keys.{IsDistinct-cons, IsDistinct-head, IsDistinct-push, IsDistinct-tail}
use Rattle.std.proofs.lemmas.Map.Views.{any-filter_same}
use Rattle.std.proofs.lemmas.Map.Steps.{length-le_from_distinct_below}
use Rattle.turn_lists.specs.Lists.{is_on, without_key}
use Rattle.turn_lists.specs.inside.KeyQueues.{AreQueued}

-- whether a key is among these with one more
pub on-put : (keys : List ℕ) (key other : ℕ) → is_on other (keys ++ key ∷ []) ≡ (is_on other keys || nat_eq other key)
on-put [] key other = by (nat_eq other key)
  where
    by : (b : Bool) → (b || false) ≡ b
    by true = refl
    by false = refl
on-put (k ∷ keys) key other = by (nat_eq other k) (on-put keys key other)
  where
    by : (b : Bool) → is_on other (keys ++ key ∷ []) ≡ (is_on other keys || nat_eq other key) → (b || is_on other (keys ++ key ∷ [])) ≡ ((b || is_on other keys) || nat_eq other key)
    by true same = refl
    by false same = same

pub queued-put : (room : ℕ) (keys : List ℕ) (key : ℕ) → AreQueued room keys → is_on key keys ≡ false → key < room → AreQueued room (keys ++ key ∷ [])
queued-put room keys key q new below = record {
  distinct = IsDistinct-push nat_eq_equiv keys key q.distinct new;
  below = λ other on. elim (cases_eq other key) [
    | inl same ↦ subst (λ (n : ℕ). n < room) (sym same) below
    | inr apart ↦ q.below other (grind (arith, nat_tests, on-put keys key other))
  ];
}

-- there is room for a key that isn't there
pub room-left : (room : ℕ) (keys : List ℕ) (key : ℕ) → AreQueued room keys → is_on key keys ≡ false → key < room → length keys < room
room-left room keys key q new below =
    let more = queued-put room keys key q new below in
    omega (arith, length-le_from_distinct_below (keys ++ key ∷ []) room more.distinct more.below, length_push keys key)

pub queued-rest : (room : ℕ) (keys : List ℕ) → AreQueued room keys → AreQueued room (drop 1 keys)
queued-rest room [] q = q
queued-rest room (key ∷ keys) q = record {
  distinct = IsDistinct-tail nat_eq key keys q.distinct;
  below = λ other on. q.below other (by (nat_eq other key) on);
}
  where
    by : {c : Bool} (b : Bool) → c ≡ true → (b || c) ≡ true
    by true on = refl
    by false on = on

-- no other is a key from which all are apart
pub on-apart : (key : ℕ) (keys : List ℕ) → AllByRecursion (λ other. nat_eq key other ≡ false) keys → is_on key keys ≡ false
on-apart key [] apart = refl
on-apart key (other ∷ keys) apart = rw apart.0 (on-apart key keys apart.1)

apart-on : (key : ℕ) (keys : List ℕ) → is_on key keys ≡ false → AllByRecursion (λ other. nat_eq key other ≡ false) keys
apart-on key [] on = tt
apart-on key (other ∷ keys) on = let both = by (nat_eq key other) on in (both.0, apart-on key keys both.1)
  where
    by : (b : Bool) → (b || is_on key keys) ≡ false → (b ≡ false) × (is_on key keys ≡ false)
    by true on = absurd (cc)
    by false on = (refl, on)

-- the first key isn't among the others
pub first-gone : (room key : ℕ) (keys : List ℕ) → AreQueued room (key ∷ keys) → is_on key keys ≡ false
first-gone room key keys q = on-apart key keys (IsDistinct-head nat_eq key keys q.distinct)

-- whether a key is among these but for one
pub on-without : (key other : ℕ) (keys : List ℕ) → is_on other (without_key key keys) ≡ (not (nat_eq other key) && is_on other keys)
on-without key other keys =
    any-filter_same (nat_eq other) (λ k. not (nat_eq k key)) (not (nat_eq other key))
    (λ k same. ap (λ (n : ℕ). not (nat_eq n key)) (sym (eqb-true other k same))) keys

distinct-without : (key : ℕ) (keys : List ℕ) → IsDistinct nat_eq keys → IsDistinct nat_eq (without_key key keys)
distinct-without key [] d = d
distinct-without key (k ∷ keys) d = by (not (nat_eq k key)) (distinct-without key keys (IsDistinct-tail nat_eq k keys d))
  where
    gone : is_on k (without_key key keys) ≡ false
    gone = on-without key k keys ∙ by-and (not (nat_eq k key)) (on-apart k keys (IsDistinct-head nat_eq k keys d))
      where
        by-and : (b : Bool) → is_on k keys ≡ false → (b && is_on k keys) ≡ false
        by-and true e = e
        by-and false e = refl

    by : (b : Bool) → IsDistinct nat_eq (without_key key keys) → IsDistinct nat_eq (cond b (k ∷ without_key key keys) (without_key key keys))
    by true r = IsDistinct-cons nat_eq k (without_key key keys) (apart-on k (without_key key keys) gone) r
    by false r = r

pub queued-without : (room key : ℕ) (keys : List ℕ) → AreQueued room keys → AreQueued room (without_key key keys)
queued-without room key keys q = record {
  distinct = distinct-without key keys q.distinct;
  below = λ other on. q.below other (by (not (nat_eq other key)) (sym (on-without key other keys) ∙ on));
}
  where
    by : {c : Bool} (b : Bool) → (b && c) ≡ true → c ≡ true
    by true on = on
    by false on = absurd (cc)

pub queued-none : (room : ℕ) → AreQueued room []
unfolding IsDistinct
queued-none room = record { distinct = tt; below = λ key on. absurd (false≢true on) }
