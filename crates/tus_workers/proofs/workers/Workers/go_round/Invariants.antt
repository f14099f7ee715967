use Rattle.std.proofs.Common.{◌≡◌, ◌+◌, false}
use Rattle.tus_workers.proofs.workers.Workers.go_round.Given as goal

-- what was accepted, and what is left, is as many as before, no accept has failed for good, and no acceptor was stopped
abbrev pub invariant-loop : goal.invariant-loop
invariant-loop g l = record {
  counts : g.A.Accept.accepted l.worker.acceptor + l.door.left ≡ g.A.Accept.accepted l.fn.worker.acceptor + l.fn.door.left;
  failed : g.A.Accept.has_failed l.worker.acceptor ≡ g.A.Accept.has_failed l.fn.worker.acceptor;
  unstopped : g.A.Accept.is_stopped l.worker.acceptor ≡ false;
}
