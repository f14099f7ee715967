-- A queue of keys.
use Rattle.std.specs.Prelude.{◌≡◌, ℕ, ◌<◌, true, List, nat_eq}
use Rattle.std.specs.List.{IsDistinct}
use Rattle.turn_lists.specs.Lists.{is_on}

-- for how many keys it has room, and the keys, the first one first
pub record KeyQueue : Type 0 where
  pub room : ℕ
  pub keys : List ℕ

abbrev pub queue_of : ℕ → List ℕ → KeyQueue
queue_of room keys = record { room = room; keys = keys }

-- no key is in it twice, and each is below the room, so that there is always room for one more
pub record AreQueued (room : ℕ) (keys : List ℕ) : Type 0 where
  pub distinct : IsDistinct nat_eq keys
  pub below : (key : ℕ) → is_on key keys ≡ true → key < room
