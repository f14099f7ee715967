use Rattle.std.specs.Prelude.{IsTrue}
use Rattle.journal_keeper.proofs.KeeperLemmas.{crash-leaves}
use Rattle.journal_keeper.proofs.keeper.Keeper.tell_crash.Goals as goal

pub returns-clause-left : goal.returns-clause-left
returns-clause-left g c = λ honest left may. rw (← c.self.view_is) (crash-leaves g.C.Charges.settings _ _ _ c.self.inside.journal c.self.inside.maybe_in_place _ _ _ _ c.self.invariant.0 honest left (rw (← c.self.view_is) at may))
