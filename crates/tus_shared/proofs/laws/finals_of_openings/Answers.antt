use Rattle.tus_shared.proofs.FinalLemmas.{of-openings}
use Rattle.tus_shared.proofs.laws.finals_of_openings.Goals as goal

pub returns : goal.returns
returns c = of-openings
