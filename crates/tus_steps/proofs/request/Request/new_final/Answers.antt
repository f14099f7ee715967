use Rattle.std.proofs.Common.{rules}
use Rattle.tus_steps.proofs.request.Request.new_final.Goals as goal

pub returns-clause-value : goal.returns-clause-value
returns-clause-value g = search rules
