use Rattle.http_wire.proofs.OrderLemmas.{wire_follows_order}
use Rattle.http_wire.proofs.laws.refusals_follow_the_order.Goals as goal

pub returns : goal.returns
returns c = wire_follows_order
