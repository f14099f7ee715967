-- One turn of a round, and those that are left.
use Rattle.std.specs.Prelude.{◌≡◌, ℕ, suc, ◌<◌, ◌≤◌, ◌++◌, ◌||◌, true, false, Bool, List, [], ◌∷◌, Option, Some, None, cond, drop, length, nat_eq, nat_lt, refl, slice_get, take}
use Rattle.std.specs.List.{FoldsTo, IsDistinct}
use Rattle.std.proofs.Common.{◌∙◌, ap, arith, length-drop, length-take, subst, sym}
use Rattle.std.proofs.lemmas.Bool.{eq-eqb, lt-ltb}
use Rattle.std.proofs.lemmas.List.{take-append-le}
use Rattle.std.proofs.lemmas.Map.Keys.{IsDistinct-head}
use Rattle.turn_lists.specs.declared.lists.TurnList.{TurnList}
use Rattle.turn_lists.specs.declared.lists.TurnList.TheVariants.{HasMore, WaitsForTurn, WaitsForKeeping}
use Rattle.turn_lists.specs.Lists.{IsEachOnce, Lists, is_on, keys_of, list_of, put_in, with_keys}
use Rattle.turn_lists.specs.Rounds.{HadRound, HasTurn, IsRound, MovesFirst, after_turn, without_first}
use Rattle.turn_lists.proofs.QueueLemmas.{on-apart, on-put}

-- ---- where a key stands after its turn

on-first : (keys : List ℕ) (key : ℕ) → slice_get keys 0 ≡ Some key → is_on key keys ≡ true
on-first [] key first = absurd (cc)
on-first (k ∷ keys) key first =
    let whose : key ≡ k = cc in
    ap (λ (b : Bool). b || is_on key keys) (eq-eqb key k whose)

first-left : (keys : List ℕ) (key : ℕ) → IsDistinct nat_eq keys → slice_get keys 0 ≡ Some key → is_on key (drop 1 keys) ≡ false
first-left [] key distinct first = absurd (cc)
first-left (k ∷ keys) key distinct first =
    let whose : k ≡ key = cc in
    subst (λ (n : ℕ). is_on n keys ≡ false) whose (on-apart k keys (IsDistinct-head nat_eq k keys distinct))

on-no-other : (lists : Lists) (list other : TurnList) (key : ℕ) → IsEachOnce lists → is_on key (keys_of lists list) ≡ true
    → (Some list ≡ Some other → ⊥) → is_on key (keys_of lists other) ≡ false
on-no-other lists list other key once on apart = by (is_on key (keys_of lists other)) refl
  where
    by : (b : Bool) → is_on key (keys_of lists other) ≡ b → b ≡ false
    by true there = absurd (apart (sym (once.no_other list key on) ∙ once.no_other other key there))
    by false there = refl

-- the first key of a list stands on none once it has left that one
alone : (lists : Lists) (list : TurnList) (key : ℕ) → IsEachOnce lists → slice_get (keys_of lists list) 0 ≡ Some key
    → list_of (without_first list lists) key ≡ None
alone lists HasMore key once first =
    let on = on-first lists.has_more key first in
    rw (
      first-left lists.has_more key (once.once HasMore) first,
      on-no-other lists HasMore WaitsForTurn key once on (λ e. cc),
      on-no-other lists HasMore WaitsForKeeping key once on (λ e. cc),
    ) refl
alone lists WaitsForTurn key once first =
    let on = on-first lists.waits_for_turn key first in
    rw (
      on-no-other lists WaitsForTurn HasMore key once on (λ e. cc),
      first-left lists.waits_for_turn key (once.once WaitsForTurn) first,
      on-no-other lists WaitsForTurn WaitsForKeeping key once on (λ e. cc),
    ) refl
alone lists WaitsForKeeping key once first =
    let on = on-first lists.waits_for_keeping key first in
    rw (
      on-no-other lists WaitsForKeeping HasMore key once on (λ e. cc),
      on-no-other lists WaitsForKeeping WaitsForTurn key once on (λ e. cc),
      first-left lists.waits_for_keeping key (once.once WaitsForKeeping) first,
    ) refl

on-itself : (keys : List ℕ) (key : ℕ) → is_on key (keys ++ key ∷ []) ≡ true
on-itself keys key = on-put keys key key ∙ by (is_on key keys) (eq-eqb key key refl)
  where
    by : {c : Bool} (b : Bool) → c ≡ true → (b || c) ≡ true
    by true e = refl
    by false e = e

-- one that stands on none stands on the list to which it is put
on-put-list : (lists : Lists) (key : ℕ) (list : TurnList) → list_of lists key ≡ None
    → list_of (with_keys lists list (keys_of lists list ++ key ∷ [])) key ≡ Some list
on-put-list lists key list none = by list (is_on key lists.has_more) (is_on key lists.waits_for_turn) refl refl none
  where
    by : (l : TurnList) (a b : Bool) → is_on key lists.has_more ≡ a → is_on key lists.waits_for_turn ≡ b → list_of lists key ≡ None
        → list_of (with_keys lists l (keys_of lists l ++ key ∷ [])) key ≡ Some l
    by HasMore a b is-a is-b none = rw (on-itself lists.has_more key) refl
    by l true b is-a is-b none = absurd (cc (rw is-a at none))
    by WaitsForTurn false b is-a is-b none = rw (is-a, on-itself lists.waits_for_turn key) refl
    by l false true is-a is-b none = absurd (cc (rw (is-a, is-b) at none))
    by WaitsForKeeping false false is-a is-b none = rw (is-a, is-b, on-itself lists.waits_for_keeping key) refl

stands-put : (lists : Lists) (key : ℕ) (next : Option TurnList) → list_of lists key ≡ None → key < lists.most
    → list_of (after_turn key next lists) key ≡ next
stands-put lists key None none below = none
stands-put lists key (Some list) none below = rw (none, lt-ltb key lists.most below) (on-put-list lists key list none)

most-stays : (lists : Lists) (list : TurnList) (keys : List ℕ) → (with_keys lists list keys).most ≡ lists.most
most-stays lists HasMore keys = refl
most-stays lists WaitsForTurn keys = refl
most-stays lists WaitsForKeeping keys = refl

-- the first key of a list moves to where its turn told
pub moves-first : (list : TurnList) (next : Option TurnList) (old new : Lists) (key : ℕ) → IsEachOnce old
    → slice_get (keys_of old list) 0 ≡ Some key → new ≡ after_turn key next (without_first list old) → MovesFirst list next old key new
moves-first list next old new key once first moves =
    let most = most-stays old list (drop 1 (keys_of old list)) in
    let below = once.below list key (on-first (keys_of old list) key first) in
    record {
      first = first;
      moves = moves;
      stands = ap (λ (lists : Lists). list_of lists key) moves ∙ stands-put (without_first list old) key next (alone old list key once first) (omega (arith, most, below));
    }

-- ---- those that are left

keys-with : (lists : Lists) (list : TurnList) (keys : List ℕ) → keys_of (with_keys lists list keys) list ≡ keys
keys-with lists HasMore keys = refl
keys-with lists WaitsForTurn keys = refl
keys-with lists WaitsForKeeping keys = refl

-- the first keys of a list stay the first ones as one is put to some list
first-stay-with : (lists : Lists) (key : ℕ) (other list : TurnList) (count : ℕ) → count ≤ length (keys_of lists list)
    → take count (keys_of (with_keys lists other (keys_of lists other ++ key ∷ [])) list) ≡ take count (keys_of lists list)
first-stay-with lists key HasMore HasMore count within = take-append-le count lists.has_more (key ∷ []) within
first-stay-with lists key HasMore WaitsForTurn count within = refl
first-stay-with lists key HasMore WaitsForKeeping count within = refl
first-stay-with lists key WaitsForTurn HasMore count within = refl
first-stay-with lists key WaitsForTurn WaitsForTurn count within = take-append-le count lists.waits_for_turn (key ∷ []) within
first-stay-with lists key WaitsForTurn WaitsForKeeping count within = refl
first-stay-with lists key WaitsForKeeping HasMore count within = refl
first-stay-with lists key WaitsForKeeping WaitsForTurn count within = refl
first-stay-with lists key WaitsForKeeping WaitsForKeeping count within = take-append-le count lists.waits_for_keeping (key ∷ []) within

first-stay : (lists : Lists) (key : ℕ) (next : Option TurnList) (list : TurnList) (count : ℕ) → count ≤ length (keys_of lists list)
    → take count (keys_of (after_turn key next lists) list) ≡ take count (keys_of lists list)
first-stay lists key None list count within = refl
first-stay lists key (Some other) list count within = by (list_of lists key)
  where
    by-place : (b : Bool) → take count (keys_of (cond b (with_keys lists other (keys_of lists other ++ key ∷ [])) lists) list) ≡ take count (keys_of lists list)
    by-place true = first-stay-with lists key other list count within
    by-place false = refl

    by : (x : Option TurnList) → take count (keys_of (put_in lists key other x) list) ≡ take count (keys_of lists list)
    by (Some _) = refl
    by None = by-place (nat_lt key lists.most)

left-over : (list : TurnList) (lists : Lists) (left rest : ℕ) → left ≡ suc rest → left ≤ length (keys_of lists list)
    → rest ≤ length (keys_of (without_first list lists) list)
left-over list lists left rest count within =
    omega (arith, ap length (keys-with lists list (drop 1 (keys_of lists list))), length-drop 1 (keys_of lists list), within, count)

-- those that are left stand there still
pub still-there : (list : TurnList) (lists after : Lists) (key : ℕ) (next : Option TurnList) (left rest : ℕ)
    → MovesFirst list next lists key after → left ≡ suc rest → left ≤ length (keys_of lists list) → rest ≤ length (keys_of after list)
still-there list lists after key next left rest moves count within =
    let others = without_first list lists in
    let enough = left-over list lists left rest count within in
    let stay = ap length (ap (λ (l : Lists). take rest (keys_of l list)) moves.moves ∙ first-stay others key next list rest enough) in
    omega (arith, stay, enough, length-take rest (keys_of after list), length-take rest (keys_of others list))

-- The turns that are left after this one are, with it, those that were left before.
pub one-more : {F : Type 0} (step : F → ℕ → Option TurnList → F → Type 0) (list : TurnList) (turn later last : F) (lists after new : Lists)
    (key : ℕ) (next : Option TurnList) (left rest : ℕ)
    → step turn key next later → MovesFirst list next lists key after → left ≡ suc rest → left ≤ length (keys_of lists list)
    → FoldsTo (HasTurn step list) (later, after) (take rest (keys_of after list)) (last, new)
    → FoldsTo (HasTurn step list) (turn, lists) (take left (keys_of lists list)) (last, new)
one-more {F} step list turn later last lists after new key next left rest turns moves count within others = by (keys_of lists list) refl
  where
    by : (keys : List ℕ) → keys_of lists list ≡ keys → FoldsTo (HasTurn step list) (turn, lists) (take left keys) (last, new)
    by [] same = let first = moves.first in absurd (cc)
    by (k ∷ keys) same =
        let first = moves.first in
        let whose : key ≡ k = cc in
        let gone = keys-with lists list (drop 1 (keys_of lists list)) ∙ ap (drop 1) same in
        let stay = first-stay (without_first list lists) key next list rest (left-over list lists left rest count within) in
        let left-keys : take rest (keys_of after list) ≡ take rest keys = ap (λ (l : Lists). take rest (keys_of l list)) moves.moves ∙ stay ∙ ap (take rest) gone in
        rw count (
          (later, after),
          subst (λ (n : ℕ). HasTurn step list (turn, lists) n (later, after)) whose (record { next = next; turns = turns; moves = moves }),
          subst (λ (l : List ℕ). FoldsTo (HasTurn step list) (later, after) l (last, new)) left-keys others,
        )

-- what a round leaves of the lists
pub had-round : {F : Type 0} (step : F → ℕ → Option TurnList → F → Type 0) (list : TurnList) (turn last : F) (old new : Lists)
    → IsRound step list turn old last new → HadRound list old new
had-round {F} step list turn last old new round = by (keys_of old list) (turn, old) round
  where
    by : (keys : List ℕ) (from : F × Lists) → FoldsTo (HasTurn step list) from keys (last, new)
        → FoldsTo (λ (before : Lists) (key : ℕ) (after : Lists). (next : Option TurnList) × MovesFirst list next before key after) from.1 keys new
    by [] from folds = ap (λ (p : F × Lists). p.1) folds
    by (key ∷ keys) from folds = (folds.0.1, (folds.1.next, folds.1.moves), by keys folds.0 folds.2)

-- a round of which no turn is left
pub none-left : {F : Type 0} (step : F → ℕ → Option TurnList → F → Type 0) (list : TurnList) (turn : F) (lists : Lists) (left : ℕ)
    → left ≡ 0 → FoldsTo (HasTurn step list) (turn, lists) (take left (keys_of lists list)) (turn, lists)
none-left step list turn lists left none = rw none refl
