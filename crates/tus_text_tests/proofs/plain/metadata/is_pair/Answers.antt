use Rattle.std.proofs.Common.{◌+◌, sym, ap, ◌∙◌, arith}
use Rattle.std.proofs.lemmas.List.{take_rest}
use Rattle.tus_text.specs.Metadata.{is_value}
use Rattle.tus_text_tests.proofs.PlainMetadataLemmas.{pair-cut, pair-key}
use Rattle.tus_text_tests.proofs.plain.metadata.is_pair.Goals as goal

pub returns-then-is_value : goal.returns-then-is_value
returns-then-is_value c =
    let pair = c.args.pair.now in
    let end = c.loop-end.end in
    let key = sym c.is_key.ensures ∙ c.if-is_key.true in
    let value = ap is_value (sym (take_rest pair (end + 1))) ∙ sym c.is_value.ensures ∙ c.if-is_value.true in
    sym (pair-cut pair end (omega arith) key c.if-pair-end-eq32.true value)

pub returns : goal.returns
returns c =
    c.is_key-2.ensures ∙ pair-key c.args.pair.now (λ k within. c.loop-end.invariant k (omega arith))
