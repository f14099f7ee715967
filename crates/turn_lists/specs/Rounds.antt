-- A round of turns.
use Rattle.std.specs.Prelude.{◌≡◌, ℕ, Option, Some, None, drop, slice_get}
use Rattle.std.specs.List.{FoldsTo}
use Rattle.turn_lists.specs.declared.lists.TurnList.{TurnList}
use Rattle.turn_lists.specs.Lists.{Lists, keys_of, list_of, put_in, with_keys}

-- the lists without the key that has stood longest on one of them
abbrev pub without_first : TurnList → Lists → Lists
without_first list lists = with_keys lists list (drop 1 (keys_of lists list))

-- the lists after a turn that told by which of them the next one comes, if by one
abbrev pub after_turn : ℕ → Option TurnList → Lists → Lists
after_turn key None lists = lists
after_turn key (Some list) lists = put_in lists key list (list_of lists key)

-- The key that has stood longest on a list has left it, and stands where its turn told: last on another list or this one, or
-- on none.
pub record MovesFirst (list : TurnList) (next : Option TurnList) (old : Lists) (key : ℕ) (new : Lists) : Type 0 where
  pub first : slice_get (keys_of old list) 0 ≡ Some key
  pub moves : new ≡ after_turn key next (without_first list old)
  pub stands : list_of new key ≡ next

-- Each key that stood on a list as a round began has moved once, in their order, and no other has.
abbrev pub HadRound : TurnList → Lists → Lists → Type 0
HadRound list old new =
    FoldsTo (λ (before : Lists) (key : ℕ) (after : Lists). (next : Option TurnList) × MovesFirst list next before key after) old (keys_of old list) new

module _ {F : Type 0} (step : F → ℕ → Option TurnList → F → Type 0) (list : TurnList) where
  -- The key that has stood longest on the list had a turn, and moved.
  pub record HasTurn (old : F × Lists) (key : ℕ) (new : F × Lists) : Type 0 where
    pub next : Option TurnList
    pub turns : step old.0 key next new.0
    pub moves : MovesFirst list next old.1 key new.1

  -- Each key that stood on the list as the round began had one turn, in their order, and no other had one.
  abbrev pub IsRound : F → Lists → F → Lists → Type 0
  IsRound turn old last new = FoldsTo HasTurn (turn, old) (keys_of old list) (last, new)
