use Rattle.tus_shared.proofs.TellLemmas.{later_answers}
use Rattle.tus_shared.proofs.laws.later_answers.Goals as goal

pub returns : goal.returns
returns c = later_answers
