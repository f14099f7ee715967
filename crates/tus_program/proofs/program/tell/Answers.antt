use Rattle.std.proofs.Common.{inr, rules}
use Rattle.journal_folders.proofs.WrittenLemmas.{written}
use Rattle.tus_program.proofs.program.tell.Goals as goal

pub returns-in-Err : goal.returns-in-Err
returns-in-Err g c =
    inr (inr (record {
      status_is = c.report_fault.ensures.status;
      asked = search rules;
      shown = written _ _ _ c.args.text.now _ c.in-Err.ensures;
      failed = c.in-Err.ensures.failed;
      lines = c.report_fault.ensures.lines;
    }))
