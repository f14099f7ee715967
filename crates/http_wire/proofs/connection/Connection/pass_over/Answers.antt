use Rattle.http_wire.proofs.PhaseLemmas.{IsConnection-start}
use Rattle.http_wire.proofs.connection.Connection.pass_over.Goals as goal

pub invariant_of-self : goal.invariant_of-self
invariant_of-self c = IsConnection-start _ _ _ _ c.self.invariant.size c.self.invariant.some c.start-self-inside.ensures
