use Rattle.std.proofs.Common.{◌-◌, sym, ◌∙◌, arith}
use Rattle.tus_text.proofs.DistinctLemmas.{not-distinct, sorted-distinct}
use Rattle.tus_text.proofs.metadata.neighbours_differ.Goals as goal

pub returns-then-eq : goal.returns-then-eq
returns-then-eq c = sym (not-distinct c.args.keys.now (c.loop-later.later - 1) c.loop-later.later _ (omega arith) c.loop-later-test.true (sym c.eq.ensures ∙ c.if-eq.true))

pub returns : goal.returns
returns c = sym (sorted-distinct c.args.keys.now c.requires (λ k more. c.loop-later.invariant k (omega arith)))
