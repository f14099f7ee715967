use Rattle.std.proofs.Common.{sym, ap, ◌∙◌, arith}
use Rattle.tus_text_tests.proofs.PlainGroupLemmas.{value_of, value_of-symbol_of, value_of-none}
use Rattle.tus_text_tests.proofs.plain.value.symbol_value.Goals as goal

pub returns-then-value-symbol-clause-some : goal.returns-then-value-symbol-clause-some
returns-then-value-symbol-clause-some c =
    let value = c.loop-value.value in
    (omega arith, sym (value_of-symbol_of value (omega arith)) ∙ ap value_of c.if-value-symbol.true)

pub returns-clause-none : goal.returns-clause-none
returns-clause-none c =
    value_of-none c.args.symbol (omega arith) (λ k below. c.loop-value.invariant k (omega arith))
