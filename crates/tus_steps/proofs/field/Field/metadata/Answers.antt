use Rattle.std.proofs.Common.{rules}
use Rattle.tus_steps.proofs.field.Field.metadata.Goals as goal

pub returns-in-One-clause-value : goal.returns-in-One-clause-value
returns-in-One-clause-value g = search rules

pub returns-in-One-clause-kept : goal.returns-in-One-clause-kept
returns-in-One-clause-kept g = search rules
