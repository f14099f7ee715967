use Rattle.std.proofs.Common.{◌≡◌, ◌+◌, ◌≤◌, ◌++◌, length, map, vec_capacity}
use Rattle.tus_workers.proofs.worker.dismiss.Given as goal

-- the desks so far and those of the workers that are left are those of all workers
abbrev pub invariant-loop-worker : goal.invariant-loop-worker
invariant-loop-worker g l = record {
  desks : l.desks.items ++ map (λ w. w.desk) l.worker-iterator.rest.items ≡ map (λ w. w.desk) l.fn.workers.items;
  room : length l.desks.items + length l.worker-iterator.rest.items ≤ vec_capacity l.desks;
}
