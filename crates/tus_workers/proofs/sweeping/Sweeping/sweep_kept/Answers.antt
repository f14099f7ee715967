use Rattle.tus_workers.proofs.sweeping.Sweeping.sweep_kept.Goals as goal

pub returns-clause-sweeps : goal.returns-clause-sweeps
returns-clause-sweeps g c = record {
  granted = c.make_room.new.desk;
  grants = c.make_room.ensures;
  sweeps = c.sweep_once.ensures.sweeps;
}
