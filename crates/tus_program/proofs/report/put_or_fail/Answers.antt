use Rattle.journal_folders.proofs.WrittenLemmas.{written}
use Rattle.tus_program.proofs.report.put_or_fail.Goals as goal

pub returns : goal.returns
returns g c = written _ _ _ c.args.text.now c.put_all.result c.put_all.ensures
