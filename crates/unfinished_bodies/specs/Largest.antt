-- The slot whose body holds most.
use Rattle.std.specs.Prelude.{◌≡◌, ℕ, ◌<◌, ◌≤◌, nat_le, List, Option, Some, None, IsSome, if◌then◌else◌}
use Rattle.unfinished_bodies.specs.declared.bodies.Entry.{Entry}
use Rattle.unfinished_bodies.specs.declared.bodies.Filled.{Filled}
use Rattle.unfinished_bodies.specs.Table.{held_in, in_slot}

-- the larger of two, where there may be no first
abbrev pub larger_of : Option Filled → ℕ → ℕ → Option Filled
larger_of None slot held = Some (record { slot = slot; held = held })
larger_of (Some x) slot held = if nat_le held x.held then Some x else Some (record { slot = slot; held = held })

-- a slot has a body that holds so much, and no body below an end holds more
pub record IsLargestAt (slots : List (Option Entry)) (end : ℕ) (x : Filled) : Type 0 where
  pub filled : IsSome (in_slot slots x.slot)
  pub holds : held_in (in_slot slots x.slot) ≡ x.held
  pub most : (slot : ℕ) → slot < end → held_in (in_slot slots slot) ≤ x.held

-- the largest below an end, or nothing where every slot is empty
abbrev pub IsLargestBelow : List (Option Entry) → ℕ → Option Filled → Type 0
IsLargestBelow slots end None = (slot : ℕ) → slot < end → in_slot slots slot ≡ None
IsLargestBelow slots end (Some x) = IsLargestAt slots end x
