use Rattle.std.proofs.Common.{length}
use Rattle.unfinished_bodies.proofs.LookLemmas.{IsOnWay, way}
use Rattle.unfinished_bodies.proofs.bodies.Unfinished.of_upload.Given as goal

abbrev pub invariant-loop-next : goal.invariant-loop-next
invariant-loop-next l = IsOnWay l.self-inside.slots.slots (length l.self-inside.chains.heads.items) l.bucket l.name l.next

abbrev pub decreases-loop-next : goal.decreases-loop-next
decreases-loop-next l = way l.self-inside.slots.slots l.next
