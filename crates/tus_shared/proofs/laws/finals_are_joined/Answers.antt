use Rattle.tus_shared.proofs.FinalLemmas.{finals-joined}
use Rattle.tus_shared.proofs.laws.finals_are_joined.Goals as goal

pub returns : goal.returns
returns c = finals-joined
