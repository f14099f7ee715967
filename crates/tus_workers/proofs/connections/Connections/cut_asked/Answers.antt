use Rattle.tus_workers.proofs.TurnLemmas.{one-more-left}
use Rattle.tus_workers.proofs.connections.Connections.cut_asked.Goals as goal

pub loop-place-preserved : goal.loop-place-preserved
loop-place-preserved g c =
    one-more-left c.args.self.now.lists c.loop-place.self.lists c.cut.new.self.lists c.in-Some-to_cut.key c.loop-place.invariant c.cut.ensures
