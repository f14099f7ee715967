use Rattle.journal_records.proofs.Spelled.{record_spelled}
use Rattle.journal_records.proofs.laws.records_are_spelled_so.Goals as goal

pub returns : goal.returns
returns c = record_spelled
