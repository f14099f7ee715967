use Rattle.std.proofs.Common.{sym, ap, ◌∙◌, arith}
use Rattle.std.proofs.lemmas.Bool.Decides.{nat_tests}
use Rattle.std.proofs.lemmas.List.{nil_from_length, take_rest}
use Rattle.tus_text.specs.Cut.{trim_spaces}
use Rattle.tus_text_tests.proofs.PlainMetadataLemmas.{trim-front, trim-back, trim-none, trim-nil}
use Rattle.tus_text_tests.proofs.plain.metadata.+trimmed.Goals as goal

pub returns-then-is_empty : goal.returns-then-is_empty
returns-then-is_empty t c =
    let none = nil_from_length c.args.text.now (grind (arith, nat_tests)) in
    none ∙ sym trim-nil ∙ ap trim_spaces (sym none)

pub returns-then-text-eq32 : goal.returns-then-text-eq32
returns-then-text-eq32 t c =
    let text = c.args.text.now in
    c.trimmed.ensures ∙ ap trim_spaces (take_rest text 1) ∙ trim-front text (grind (arith, nat_tests)) c.if-text-eq32.true

pub returns-then-text-last-eq32 : goal.returns-then-text-last-eq32
returns-then-text-last-eq32 t c =
    let text = c.args.text.now in
    c.trimmed-then-text-last-eq32.ensures ∙ trim-back text _ (grind (arith, nat_tests)) c.if-text-eq32.false c.if-text-last-eq32.true

pub returns : goal.returns
returns t c =
    let text = c.args.text.now in
    sym (trim-none text _ (grind (arith, nat_tests)) c.if-text-eq32.false c.if-text-last-eq32.false)
