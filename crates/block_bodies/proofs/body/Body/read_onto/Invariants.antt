use Rattle.std.proofs.Common.{◌≡◌, ◌+◌, ◌-◌, ◌≤◌, ◌++◌, drop, take, vec_len, vec_capacity}
use Rattle.block_bodies.specs.Bodies.{content_of}
use Rattle.block_bodies.proofs.body.Body.read_onto.Given as goal

abbrev pub invariant-loop-done : goal.invariant-loop-done
invariant-loop-done l = record {
  read : l.bytes.items ≡ l.initial.bytes.items ++ take l.done (drop l.offset (content_of l.pool l.self));
  few : l.done ≤ l.all;
  fits : vec_len l.bytes + (l.all - l.done) ≤ vec_capacity l.bytes;
  room : vec_capacity l.initial.bytes ≤ vec_capacity l.bytes;
}

abbrev pub decreases-loop-done : goal.decreases-loop-done
decreases-loop-done l = l.all - l.done
