use Rattle.std.proofs.Common.{refl}
use Rattle.http_wire.proofs.read.head.layout_of.Goals as goal

pub returns-after-asks_to_continue-clause-within : goal.returns-after-asks_to_continue-clause-within
returns-after-asks_to_continue-clause-within c = record { head = refl; target = c.requires.target; fields = c.requires.fields.tus }
