use Rattle.service_watch.proofs.LineLemmas.{request-one_line}
use Rattle.service_watch.proofs.laws.requests_are_one_line.Goals as goal

pub returns : goal.returns
returns c = request-one_line
