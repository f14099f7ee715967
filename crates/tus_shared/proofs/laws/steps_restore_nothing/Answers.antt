use Rattle.tus_shared.proofs.FinalLemmas.{steps-plain}
use Rattle.tus_shared.proofs.laws.steps_restore_nothing.Goals as goal

pub returns : goal.returns
returns c = steps-plain
