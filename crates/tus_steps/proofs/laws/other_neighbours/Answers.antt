use Rattle.tus_steps.proofs.LawsLemmas.{other_neighbours}
use Rattle.tus_steps.proofs.laws.other_neighbours.Goals as goal

pub returns : goal.returns
returns c = other_neighbours
