use Rattle.tus_workers.proofs.TurnLemmas.{one-more-left}
use Rattle.tus_workers.proofs.connections.Connections.cut_all.Goals as goal

pub loop-key-preserved : goal.loop-key-preserved
loop-key-preserved g c =
    one-more-left c.args.self.now.lists c.loop-key.self.lists c.cut.new.self.lists c.loop-key.key c.loop-key.invariant c.cut.ensures
