use Rattle.journal_records.proofs.Again.{record_again}
use Rattle.journal_records.proofs.laws.records_are_read_again.Goals as goal

pub returns : goal.returns
returns c = record_again
