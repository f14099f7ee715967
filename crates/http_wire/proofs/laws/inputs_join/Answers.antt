use Rattle.http_wire.proofs.LawsLemmas.{inputs_join, turns_join}
use Rattle.http_wire.proofs.laws.inputs_join.Goals as goal

pub returns-clause-conversation : goal.returns-clause-conversation
returns-clause-conversation g c = inputs_join g.A.Answer.steps

pub returns-clause-turns : goal.returns-clause-turns
returns-clause-turns g c = turns_join g.A.Answer.steps
