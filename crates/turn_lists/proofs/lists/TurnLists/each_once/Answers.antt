use Rattle.std.proofs.Common.{arith, subst}
use Rattle.std.specs.Vec.{vec_len}
use Rattle.turn_lists.specs.Lists.{IsEachOnce}
use Rattle.turn_lists.proofs.KeptLemmas.{each-once}
use Rattle.turn_lists.proofs.lists.TurnLists.each_once.Goals as goal

pub returns : goal.returns
returns c = record { each_once = subst IsEachOnce c.self.view_is (each-once c.self.inside.stands.items c.self.inside.queues (vec_len c.self.inside.stands) (omega arith) c.self.invariant) }
