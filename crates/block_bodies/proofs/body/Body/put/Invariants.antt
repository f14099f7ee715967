use Rattle.std.proofs.Common.{◌≡◌, ◌-◌, ◌≤◌, length, take}
use Rattle.block_bodies.specs.Changes.{Puts}
use Rattle.block_bodies.proofs.body.Body.put.Given as goal

abbrev pub invariant-loop-done : goal.invariant-loop-done
invariant-loop-done l = record {
  puts : Puts l.initial.pool l.initial.self (take l.done l.bytes) l.pool l.self;
  room : l.self.room ≡ l.initial.self.room;
  within : l.done ≤ length l.bytes;
}

abbrev pub decreases-loop-done : goal.decreases-loop-done
decreases-loop-done l = length l.bytes - l.done
