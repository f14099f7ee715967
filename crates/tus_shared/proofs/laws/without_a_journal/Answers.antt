use Rattle.tus_shared.proofs.JournalLaws.{without_a_journal}
use Rattle.tus_shared.proofs.laws.without_a_journal.Goals as goal

pub returns : goal.returns
returns c = without_a_journal
