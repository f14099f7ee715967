use Rattle.tus_shared.proofs.FinalLemmas.{go-on}
use Rattle.tus_shared.proofs.laws.openings_go_on.Goals as goal

pub returns : goal.returns
returns c = go-on
