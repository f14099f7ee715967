use Rattle.std.proofs.Common.{◌<◌, ◌∷◌, ◌++◌, [], Some, length, length-append, sym, ap, ◌∙◌, arith}
use Rattle.std.specs.List.{before_first, after_first}
use Rattle.std.specs.Option.{option_and_then}
use Rattle.std.proofs.lemmas.Bool.{eqb-true}
use Rattle.std.proofs.lemmas.Bool.Decides.{nat_tests}
use Rattle.tus_text.specs.Cut.{is_space}
use Rattle.tus_text.specs.Concat.{words_of, parts_of, within_limit, final_of}
use Rattle.tus_text.proofs.ConcatLemmas.{joined, joined-none, within-fits, parts-none, parts-full, parts-last, parts-more, after-shorter}
use Rattle.tus_text.proofs.concat.read_parts.Goals as goal

pub loop-part-init : goal.loop-part-init
loop-part-init c =
    let parts = parts_of (words_of c.args.list.now) in
    ap (λ items. joined items parts) c.new-parts.ensures ∙ joined-none parts

pub returns-in_err-part-clause-value : goal.returns-in_err-part-clause-value
unfolding final_of
returns-in_err-part-clause-value c =
    let target = c.split_at_first.result.0.now in
    let is = c.split_at_first.ensures.before ∙ ap (before_first is_space) c.trim_start-words.ensures in
    let none = parts-none c.loop-part.parts.items c.loop-part.rest.now target is (sym c.read_part.ensures ∙ c.in_err-part.was) in
    c.from_residual.ensures ∙ sym (ap (option_and_then within_limit) (sym c.loop-part.invariant ∙ none))

pub returns-then-is_full-clause-value : goal.returns-then-is_full-clause-value
unfolding final_of
returns-then-is_full-clause-value c =
    let target = c.split_at_first.result.0.now in
    let is = c.split_at_first.ensures.before ∙ ap (before_first is_space) c.trim_start-words.ensures in
    let full = eqb-true _ _ (sym c.is_full.ensures.value ∙ c.if-is_full.true) in
    let none = parts-full c.loop-part.parts.items c.loop-part.rest.now target c.in_ok-part.part is (sym c.read_part.ensures ∙ c.in_ok-part.was) (omega arith) in
    sym (ap (option_and_then within_limit) (sym c.loop-part.invariant) ∙ none)

pub returns-then-target-words-clause-value : goal.returns-then-target-words-clause-value
unfolding final_of
returns-then-target-words-clause-value c =
    let target = c.split_at_first.result.0.now in
    let front = c.loop-part.parts.items in
    let part = c.in_ok-part.part in
    let is = c.split_at_first.ensures.before ∙ ap (before_first is_space) c.trim_start-words.ensures in
    let last = parts-last front c.loop-part.rest.now target part is (sym c.read_part.ensures ∙ c.in_ok-part.was) (c.if-target-words.true ∙ ap length c.trim_start-words.ensures) in
    let room : length front < 32 = grind (arith, nat_tests) in
    let fits = within-fits (front ++ part ∷ []) (omega (arith, length-append front (part ∷ []))) in
    ap Some c.push.ensures.items ∙ sym (ap (option_and_then within_limit) (sym c.loop-part.invariant ∙ last) ∙ fits)

pub loop-part-preserved : goal.loop-part-preserved
loop-part-preserved c =
    let target = c.split_at_first.result.0.now in
    let after = c.split_at_first.result.1.now in
    let is = c.split_at_first.ensures.before ∙ ap (before_first is_space) c.trim_start-words.ensures in
    let is_after = c.split_at_first.ensures.after ∙ ap (after_first is_space) c.trim_start-words.ensures in
    let more = parts-more c.loop-part.parts.items c.loop-part.rest.now target after c.in_ok-part.part is is_after (sym c.read_part.ensures ∙ c.in_ok-part.was) (λ whole. c.if-target-words.false (whole ∙ ap length (sym c.trim_start-words.ensures))) in
    ap (λ items. joined items (parts_of (words_of after))) c.push.ensures.items ∙ sym more ∙ c.loop-part.invariant

pub loop-part-smaller : goal.loop-part-smaller
loop-part-smaller c =
    let target = c.split_at_first.result.0.now in
    let is = c.split_at_first.ensures.before ∙ ap (before_first is_space) c.trim_start-words.ensures in
    let is_after = c.split_at_first.ensures.after ∙ ap (after_first is_space) c.trim_start-words.ensures in
    after-shorter c.loop-part.rest.now target c.split_at_first.result.1.now is is_after (λ whole. c.if-target-words.false (whole ∙ ap length (sym c.trim_start-words.ensures)))
