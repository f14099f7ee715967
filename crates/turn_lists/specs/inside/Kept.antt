-- For each key it is noted on which list it stands.
use Rattle.std.specs.Prelude.{◌≡◌, ℕ, true, false, Bool, List, Option, Some, None, length, slice_index_or}
use Rattle.turn_lists.specs.declared.lists.TurnList.{TurnList}
use Rattle.turn_lists.specs.declared.lists.TurnList.TheVariants.{HasMore, WaitsForTurn, WaitsForKeeping}
use Rattle.turn_lists.specs.declared.queues.Queues.{Queues}
use Rattle.turn_lists.specs.Lists.{is_on}
use Rattle.turn_lists.specs.inside.KeyQueues.{AreQueued, KeyQueue}
use Rattle.turn_lists.specs.inside.Queues.{queue_in}

-- whether this list is noted
abbrev pub is_noted : TurnList → Option TurnList → Bool
is_noted HasMore (Some HasMore) = true
is_noted WaitsForTurn (Some WaitsForTurn) = true
is_noted WaitsForKeeping (Some WaitsForKeeping) = true
is_noted list noted = false

-- a queue has exactly the keys for which its list is noted, each once, and room for all keys
pub record IsNoted (stands : List (Option TurnList)) (list : TurnList) (queue : KeyQueue) : Type 0 where
  pub room : queue.room ≡ length stands
  pub tells : (key : ℕ) → is_on key queue.keys ≡ is_noted list (slice_index_or stands key None)
  pub queued : AreQueued queue.room queue.keys

-- each queue has exactly the keys for which its list is noted
abbrev pub IsKept : List (Option TurnList) → Queues → Type 0
IsKept stands queues = (list : TurnList) → IsNoted stands list (queue_in queues list)
