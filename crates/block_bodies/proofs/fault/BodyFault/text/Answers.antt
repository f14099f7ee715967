use Rattle.std.proofs.Common.{refl}
use Rattle.block_bodies.proofs.fault.BodyFault.text.Goals as goal

pub returns-in-Full : goal.returns-in-Full
returns-in-Full c = rw c.in-Full.is refl
