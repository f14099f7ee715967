use Rattle.http_wire.proofs.LawsLemmas.{bodies_come_first}
use Rattle.http_wire.proofs.laws.bodies_come_first.Goals as goal

pub returns : goal.returns
returns g c = bodies_come_first g.A.Answer.steps g.C.Clock.tells
