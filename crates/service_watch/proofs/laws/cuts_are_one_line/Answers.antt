use Rattle.service_watch.proofs.LineLemmas.{cut-one_line}
use Rattle.service_watch.proofs.laws.cuts_are_one_line.Goals as goal

pub returns : goal.returns
returns c = cut-one_line
