use Rattle.std.proofs.Common.{◌≡◌, ◌+◌, ◌≤◌, ◌++◌, false, length, map, vec_capacity}
use Rattle.std.specs.List.{All}
use Rattle.tus_workers.proofs.worker.hire.Given as goal

-- each worker so far is new, and their desks and those that are left are all desks
abbrev pub invariant-loop-desk : goal.invariant-loop-desk
invariant-loop-desk g l = record {
  desks : map (λ w. w.desk) l.workers.items ++ l.desk-iterator.rest.items ≡ l.fn.desks.items;
  count : length l.workers.items + length l.desk-iterator.rest.items ≡ length l.fn.desks.items;
  room : length l.workers.items + length l.desk-iterator.rest.items ≤ vec_capacity l.workers;
  alive : All (λ w. g.L.Acceptor.Accept.has_failed w.acceptor ≡ false) l.workers.items;
  unstopped : All (λ w. g.L.Acceptor.Accept.is_stopped w.acceptor ≡ false) l.workers.items;
  new : All (λ w. g.L.Acceptor.Accept.accepted w.acceptor ≡ 0) l.workers.items;
}
