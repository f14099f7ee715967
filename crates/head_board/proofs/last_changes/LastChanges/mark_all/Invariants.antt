use Rattle.std.proofs.Common.{◌≡◌, ◌++◌, map, take, drop}
use Rattle.head_board.specs.inside.EventLog.{LogPrefix}
use Rattle.head_board.proofs.last_changes.LastChanges.mark_all.Given as goal

-- the slots before this one have the events
abbrev pub invariant-loop-slot : goal.invariant-loop-slot
invariant-loop-slot l = l.slot-items ≡ map {A = LogPrefix} {B = LogPrefix} (λ slot. l.after) (take l.slot-index l.initial.slot-items) ++ drop l.slot-index l.initial.slot-items
