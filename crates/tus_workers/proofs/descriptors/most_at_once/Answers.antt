use Rattle.std.proofs.Common.{rules}
use Rattle.tus_workers.proofs.DescriptorLemmas.{none-more}
use Rattle.tus_workers.proofs.descriptors.most_at_once.Goals as goal

pub returns-clause-most : goal.returns-clause-most
returns-clause-most c = none-more c.args.limit c.args.workers c.max.result c.requires (search rules)
