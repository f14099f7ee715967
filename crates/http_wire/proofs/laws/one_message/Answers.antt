use Rattle.http_wire.proofs.LawsLemmas.{one_message}
use Rattle.http_wire.proofs.laws.one_message.Goals as goal

pub returns : goal.returns
returns c = one_message
