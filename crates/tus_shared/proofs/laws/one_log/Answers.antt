use Rattle.tus_shared.proofs.LogLaws.{one_log}
use Rattle.tus_shared.proofs.laws.one_log.Goals as goal

pub returns : goal.returns
returns c = one_log
