use Rattle.tus_workers.specs.Turns.{HaveLeft}
use Rattle.tus_workers.proofs.connections.Connections.cut_asked.Given as goal

-- those that were cut off so far have left their lists
abbrev pub invariant-loop-place : goal.invariant-loop-place
invariant-loop-place g l = HaveLeft l.fn.self.lists l.self.lists
