use Rattle.tus_program.proofs.ReportLemmas.{written_after, written_within}
use Rattle.tus_program.proofs.report.put_both.Goals as goal

pub returns-in-Ok : goal.returns-in-Ok
returns-in-Ok g c = written_after _ _ _ _ c.args.first.now c.args.second.now c.in-Ok.ensures.all c.put_or_fail.ensures

pub returns-in-Err : goal.returns-in-Err
returns-in-Err g c = written_within _ _ _ c.args.first.now c.args.second.now _ c.in-Err.ensures
