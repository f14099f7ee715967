use Rattle.std.proofs.Common.{refl}
use Rattle.clap.specs.Values.{kind_of}
use Rattle.tus_program.specs.Run.{explained}
use Rattle.tus_program.proofs.RunLemmas.{RunEnds-performed}
use Rattle.tus_program.proofs.program.run.Goals as goal

pub returns-in-Ok : goal.returns-in-Ok
returns-in-Ok g c = RunEnds-performed _ _ _ _ _ _ _ _ _ _ _ _ c.in-Ok.ensures.faults c.in-Ok.ensures.found c.perform.ensures

pub returns-in-Err : goal.returns-in-Err
returns-in-Err g c = explained (kind_of c.in-Err.error) c.in-Err.ensures.faults c.explain.ensures refl
