use Rattle.std.proofs.Common.{◌≡◌}
use Rattle.tus_workers.proofs.workers.Workers.wind_up.Given as goal

-- nothing more is accepted
abbrev pub invariant-loop : goal.invariant-loop
invariant-loop g l = record {
  acceptor : l.worker.acceptor ≡ l.fn.worker.acceptor;
  left : l.door.left ≡ l.fn.door.left;
}
