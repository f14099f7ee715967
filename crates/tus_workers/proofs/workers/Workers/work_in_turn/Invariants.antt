use Rattle.std.proofs.Common.{◌≡◌, false}
use Rattle.tus_workers.proofs.workers.Workers.work_in_turn.Given as goal

-- no accept has failed so far, and each round gave a connection
abbrev pub invariant-loop : goal.invariant-loop
invariant-loop g l = record {
  alive : g.A.Accept.has_failed l.worker.acceptor ≡ false;
  unstopped : g.A.Accept.is_stopped l.worker.acceptor ≡ false;
  counted : g.A.Accept.accepted l.worker.acceptor ≡ l.counter;
}
