use Rattle.std.proofs.Common.{rules}
use Rattle.tus_steps.proofs.head.head_of.Goals as goal

pub returns-in-Ok-Look-clause-found : goal.returns-in-Ok-Look-clause-found
returns-in-Ok-Look-clause-found g = search rules

pub returns-in-Ok-Look-clause-step : goal.returns-in-Ok-Look-clause-step
returns-in-Ok-Look-clause-step g = search rules
