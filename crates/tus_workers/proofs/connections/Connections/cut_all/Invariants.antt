use Rattle.tus_workers.specs.Turns.{HaveLeft}
use Rattle.tus_workers.proofs.connections.Connections.cut_all.Given as goal

-- those that were cut off so far have left their lists
abbrev pub invariant-loop-key : goal.invariant-loop-key
invariant-loop-key g l = HaveLeft l.fn.self.lists l.self.lists
