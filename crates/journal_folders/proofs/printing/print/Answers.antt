use Rattle.journal_folders.proofs.WrittenLemmas.{written}
use Rattle.journal_folders.proofs.printing.print.Goals as goal

pub returns-in-Ok-clause-written : goal.returns-in-Ok-clause-written
returns-in-Ok-clause-written g c = written _ _ _ c.args.text.now _ c.in-Ok.ensures

pub returns-in-Err-clause-written : goal.returns-in-Err-clause-written
returns-in-Err-clause-written g c = written _ _ _ c.args.text.now _ c.in-Err.ensures
