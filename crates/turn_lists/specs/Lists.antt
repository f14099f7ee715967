-- Who stands on which list, as a contract sees it.
use Rattle.std.specs.Prelude.{◌≡◌, ℕ, ◌<◌, ◌++◌, true, Bool, not, List, [], ◌∷◌, Option, Some, None, filter, nat_eq, nat_lt, if◌then◌else◌}
use Rattle.std.specs.List.{IsDistinct, list_any}
use Rattle.turn_lists.specs.declared.lists.TurnList.{TurnList}
use Rattle.turn_lists.specs.declared.lists.TurnList.TheVariants.{HasMore, WaitsForTurn, WaitsForKeeping}

-- the bound of the keys, and the keys on each list, the one that has stood there longest first
pub record Lists : Type 0 where
  pub most : ℕ
  pub has_more : List ℕ
  pub waits_for_turn : List ℕ
  pub waits_for_keeping : List ℕ

-- nobody stands on a list
abbrev pub empty_lists : ℕ → Lists
empty_lists most = record { most = most; has_more = []; waits_for_turn = []; waits_for_keeping = [] }

-- the keys on a list
abbrev pub keys_of : Lists → TurnList → List ℕ
keys_of lists HasMore = lists.has_more
keys_of lists WaitsForTurn = lists.waits_for_turn
keys_of lists WaitsForKeeping = lists.waits_for_keeping

-- the lists with these keys on one of them
abbrev pub with_keys : Lists → TurnList → List ℕ → Lists
with_keys lists HasMore keys = record lists { has_more = keys }
with_keys lists WaitsForTurn keys = record lists { waits_for_turn = keys }
with_keys lists WaitsForKeeping keys = record lists { waits_for_keeping = keys }

-- whether a key is among these
abbrev pub is_on : ℕ → List ℕ → Bool
is_on key keys = list_any (nat_eq key) keys

-- the list on which a key stands
abbrev pub list_of : Lists → ℕ → Option TurnList
list_of lists key =
    if is_on key lists.has_more then Some HasMore
    else if is_on key lists.waits_for_turn then Some WaitsForTurn
    else if is_on key lists.waits_for_keeping then Some WaitsForKeeping
    else None

-- each key that stands on a list stands there once, on no other, and is below the bound
pub record IsEachOnce (lists : Lists) : Type 0 where
  pub once : (list : TurnList) → IsDistinct nat_eq (keys_of lists list)
  pub no_other : (list : TurnList) (key : ℕ) → is_on key (keys_of lists list) ≡ true → list_of lists key ≡ Some list
  pub below : (list : TurnList) (key : ℕ) → is_on key (keys_of lists list) ≡ true → key < lists.most

-- the lists after a key was put to one of them, where it stood on this one or on none
abbrev pub put_in : Lists → ℕ → TurnList → Option TurnList → Lists
put_in lists key list (Some _) = lists
put_in lists key list None = if nat_lt key lists.most then with_keys lists list (keys_of lists list ++ key ∷ []) else lists

-- the keys but for one
abbrev pub without_key : ℕ → List ℕ → List ℕ
without_key key keys = filter (λ other. not (nat_eq other key)) keys

-- the lists after a key has left the one on which it stood, if it stood on one
abbrev pub without : Lists → ℕ → Option TurnList → Lists
without lists key None = lists
without lists key (Some list) = with_keys lists list (without_key key (keys_of lists list))
