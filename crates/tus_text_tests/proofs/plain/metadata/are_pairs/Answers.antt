use Rattle.std.proofs.Common.{◌+◌, ◌&&◌, drop, option_copied, sym, ap, ◌∙◌, arith}
use Rattle.std.specs.List.{list_all}
use Rattle.std.proofs.lemmas.List.{drop_all}
use Rattle.tus_text.specs.Metadata.{is_pair, pairs_of}
use Rattle.tus_text_tests.proofs.PlainCutLemmas.{drop-at, drop-past}
use Rattle.tus_text_tests.proofs.PlainMetadataLemmas.{length-pairs}
use Rattle.tus_text_tests.proofs.plain.metadata.are_pairs.Goals as goal

pub returns-in_default : goal.returns-in_default
returns-in_default c =
    let none = drop-past (pairs_of c.args.text.now) c.loop-number.number (sym c.pair_at.ensures ∙ ap option_copied c.in_default.is) in
    ap (list_all is_pair) (sym none) ∙ c.loop-number.invariant

pub returns-then-not-is_pair : goal.returns-then-not-is_pair
returns-then-not-is_pair c =
    let pairs = pairs_of c.args.text.now in
    let number = c.loop-number.number in
    let first = drop-at pairs number c.in-Some.pair.now (sym c.pair_at.ensures ∙ ap option_copied c.in-Some.is) in
    ap (λ is. is && list_all is_pair (drop (number + 1) pairs)) (sym c.if-not-is_pair.true ∙ c.is_pair.ensures)
    ∙ sym (ap (list_all is_pair) first) ∙ c.loop-number.invariant

pub loop-number-preserved : goal.loop-number-preserved
loop-number-preserved c =
    let pairs = pairs_of c.args.text.now in
    let number = c.loop-number.number in
    let first = drop-at pairs number c.in-Some.pair.now (sym c.pair_at.ensures ∙ ap option_copied c.in-Some.is) in
    ap (λ is. is && list_all is_pair (drop (number + 1) pairs)) (sym c.if-not-is_pair.false ∙ c.is_pair.ensures)
    ∙ sym (ap (list_all is_pair) first) ∙ c.loop-number.invariant

pub returns : goal.returns
returns c =
    let none = drop_all c.loop-number.number (pairs_of c.args.text.now) (omega (arith, length-pairs c.args.text.now)) in
    ap (list_all is_pair) (sym none) ∙ c.loop-number.invariant
