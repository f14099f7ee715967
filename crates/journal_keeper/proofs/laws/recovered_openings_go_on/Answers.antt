use Rattle.journal_keeper.proofs.OpeningLemmas.{recovered-go-on}
use Rattle.journal_keeper.proofs.laws.recovered_openings_go_on.Goals as goal

pub returns : goal.returns
returns c = recovered-go-on
