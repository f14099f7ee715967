-- What a desk is granted of a journal's room.
use Rattle.std.specs.Prelude.{◌≡◌, ◌⊎◌, ℕ, ◌+◌, ◌-◌, ◌^◌, ◌<◌, ◌≤◌, false, Option, Some, None, nat_le, nat_lt, if◌then◌else◌}
use Rattle.tus_shared.specs.Desk.{Desk}
use Rattle.journal_keeper.specs.Keeper.{KeeperView}

-- The room that a desk with this room needs to queue so many bytes of records: none where it has room for these and 65,536
-- bytes more; else so much, where a word can tell 4 MiB more than that.
abbrev pub needed_for : ℕ → ℕ → Option ℕ
needed_for room bytes = if nat_le (bytes + 65536) room then None else if nat_lt (bytes + 65536 + 4194304) (2 ^ 64) then Some (bytes + 65536) else None

-- the same as a fact
pub record IsNeeded (bytes : ℕ) (desk : Desk) : Type 0 where
  pub lacks : desk.room < bytes + 65536
  pub told : bytes + 65536 + 4194304 < 2 ^ 64

-- The desk had less than this room, and is granted exactly so much that it has it. As much more is promised, and the journal
-- has room for all that is.
pub record Grants {D : Type 0} (room : ℕ) (before after : KeeperView D) (old new : Desk) : Type 0 where
  pub lacked : old.room < room
  pub desk : new ≡ record old { room = room }
  pub promised : after.promised + old.room ≡ before.promised + room
  pub covered : after.promised ≤ after.room

-- the rooms that may be granted for so many bytes of records: these, 65,536 more and 4 MiB; these and 65,536 more; 65,536
abbrev pub IsRoomFor : ℕ → ℕ → Type 0
IsRoomFor bytes room = (room ≡ bytes + 65536 + 4194304) ⊎ ((room ≡ bytes + 65536) ⊎ (room ≡ 65536))

-- a desk that needs it is granted one of these, or nothing
abbrev pub MayGrant : {D : Type 0} → ℕ → KeeperView D → KeeperView D → Desk → Desk → Type 0
MayGrant bytes before after old new =
    ((new ≡ old) × (after.promised ≡ before.promised))
    ⊎ ((old.room < bytes + 65536) × ((room : ℕ) × IsRoomFor bytes room × Grants room before after old new))

-- there is so much room already that a desk with less can be granted this one
pub record HasRoom {D : Type 0} (room : ℕ) (keeper : KeeperView D) (desk : Desk) : Type 0 where
  pub well : keeper.failed ≡ false
  pub lacks : desk.room < room
  pub promised : keeper.promised + (room - desk.room) ≤ keeper.room
  pub counted : keeper.promised + (room - desk.room) < 2 ^ 64

-- what a desk sees of that
abbrev pub MayHaveMore : ℕ → Desk → Desk → Type 0
MayHaveMore bytes old new =
    (new ≡ old) ⊎ ((old.room < bytes + 65536) × ((room : ℕ) × IsRoomFor bytes room × (old.room < room) × (new ≡ record old { room = room })))
