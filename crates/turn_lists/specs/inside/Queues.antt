-- The queues of keys behind the lists.
use Rattle.std.specs.Prelude.{ℕ, List, []}
use Rattle.turn_lists.specs.declared.lists.TurnList.{TurnList}
use Rattle.turn_lists.specs.declared.lists.TurnList.TheVariants.{HasMore, WaitsForTurn, WaitsForKeeping}
use Rattle.turn_lists.specs.declared.queues.Queues.{Queues}
use Rattle.turn_lists.specs.inside.KeyQueues.{KeyQueue, queue_of}
use Rattle.turn_lists.specs.Lists.{Lists}

-- queues without a key
abbrev pub empty_queues : ℕ → Queues
empty_queues room = record { has_more = queue_of room []; waits_for_turn = queue_of room []; waits_for_keeping = queue_of room [] }

-- the queue of a list
abbrev pub queue_in : Queues → TurnList → KeyQueue
queue_in queues HasMore = queues.has_more
queue_in queues WaitsForTurn = queues.waits_for_turn
queue_in queues WaitsForKeeping = queues.waits_for_keeping

-- the queues with these keys in that of a list
abbrev pub with_keys_in : Queues → TurnList → List ℕ → Queues
with_keys_in queues HasMore keys = record queues { has_more = queue_of queues.has_more.room keys }
with_keys_in queues WaitsForTurn keys = record queues { waits_for_turn = queue_of queues.waits_for_turn.room keys }
with_keys_in queues WaitsForKeeping keys = record queues { waits_for_keeping = queue_of queues.waits_for_keeping.room keys }

-- the lists that they are, of keys below a bound
abbrev pub lists_in : ℕ → Queues → Lists
lists_in most queues = record { most = most; has_more = queues.has_more.keys; waits_for_turn = queues.waits_for_turn.keys; waits_for_keeping = queues.waits_for_keeping.keys }
