use Rattle.std.proofs.Common.{◌∙◌}
use Rattle.tus_text.proofs.DistinctLemmas.{distinct-moved}
use Rattle.tus_text.proofs.metadata.are_distinct.Goals as goal

pub returns : goal.returns
returns c = c.neighbours_differ.ensures ∙ distinct-moved c.args.keys.now c.sort_unstable.new.self c.sort_unstable.ensures.permutation
