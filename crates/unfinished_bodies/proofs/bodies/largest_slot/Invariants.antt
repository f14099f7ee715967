use Rattle.unfinished_bodies.specs.Largest.{IsLargestBelow}
use Rattle.unfinished_bodies.proofs.bodies.largest_slot.Given as goal

abbrev pub invariant-loop-slot : goal.invariant-loop-slot
invariant-loop-slot l = IsLargestBelow l.slots.slots l.slot l.largest
