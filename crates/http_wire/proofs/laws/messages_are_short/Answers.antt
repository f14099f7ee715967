use Rattle.http_wire.proofs.LawsLemmas.{messages_are_short}
use Rattle.http_wire.proofs.laws.messages_are_short.Goals as goal

pub returns : goal.returns
returns c = messages_are_short
