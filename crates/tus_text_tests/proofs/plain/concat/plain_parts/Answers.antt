use Rattle.std.proofs.Common.{◌+◌, ◌<◌, ◌≤◌, ◌∷◌, ◌++◌, [], length, drop, option_copied, length-append, sym, ap, ◌∙◌, arith}
use Rattle.std.specs.List.{slice_split}
use Rattle.std.specs.Option.{option_and_then}
use Rattle.std.proofs.lemmas.Bool.{eqb-true}
use Rattle.std.proofs.lemmas.Bool.Decides.{nat_tests}
use Rattle.std.proofs.lemmas.List.{drop_all}
use Rattle.tus_text.specs.Cut.{is_space}
use Rattle.tus_text.specs.Concat.{join_cuts, parts_of, within_limit, final_of}
use Rattle.tus_text.proofs.ConcatLemmas.{joined, joined-none, first-none, first-full, first-more}
use Rattle.tus_text_tests.proofs.PlainCutLemmas.{drop-past}
use Rattle.tus_text_tests.proofs.PlainConcatLemmas.{length-cuts, cuts-passed, cuts-taken, all-taken}
use Rattle.tus_text_tests.proofs.plain.concat.plain_parts.Goals as goal

pub loop-number-init : goal.loop-number-init
loop-number-init c =
    let parts = parts_of (join_cuts (slice_split is_space c.args.list.now)) in
    record {
      all = ap (λ items. joined items parts) c.new-parts.ensures ∙ joined-none parts;
      fits = rw c.new-parts.ensures (omega arith);
    }

pub returns-in_default : goal.returns-in_default
unfolding final_of
returns-in_default c =
    let cuts = slice_split is_space c.args.list.now in
    let front = c.loop-number.parts.items in
    let none = drop-past cuts c.loop-number.number (sym c.part_at.ensures ∙ ap option_copied c.in_default.is) in
    let all = sym c.loop-number.invariant.all ∙ ap (λ rest. joined front (parts_of (join_cuts rest))) none in
    sym (ap (option_and_then within_limit) all ∙ all-taken front c.loop-number.invariant.fits)

pub loop-number-preserved-then-is_passed_over : goal.loop-number-preserved-then-is_passed_over
loop-number-preserved-then-is_passed_over c =
    let cuts = slice_split is_space c.args.list.now in
    let front = c.loop-number.parts.items in
    let cut = sym c.part_at.ensures ∙ ap option_copied c.in-Some.is in
    let passed = cuts-passed cuts c.loop-number.number c.in-Some.word.now cut (sym c.is_passed_over.ensures ∙ c.if-is_passed_over.true) in
    record {
      all = ap (λ words. joined front (parts_of words)) (sym passed) ∙ c.loop-number.invariant.all;
      fits = c.loop-number.invariant.fits;
    }

pub returns-in_err-part : goal.returns-in_err-part
unfolding final_of
returns-in_err-part c =
    let cuts = slice_split is_space c.args.list.now in
    let number = c.loop-number.number in
    let word = c.in-Some.word.now in
    let cut = sym c.part_at.ensures ∙ ap option_copied c.in-Some.is in
    let taken = cuts-taken cuts number word cut (sym c.is_passed_over.ensures ∙ c.if-is_passed_over.false) in
    let none = first-none c.loop-number.parts.items _ (join_cuts (drop (number + 1) cuts)) word taken (sym c.plain_part.ensures ∙ c.in_err-part.was) in
    c.from_residual.ensures ∙ sym (ap (option_and_then within_limit) (sym c.loop-number.invariant.all ∙ none))

pub returns-then-is_full : goal.returns-then-is_full
unfolding final_of
returns-then-is_full c =
    let cuts = slice_split is_space c.args.list.now in
    let number = c.loop-number.number in
    let word = c.in-Some.word.now in
    let cut = sym c.part_at.ensures ∙ ap option_copied c.in-Some.is in
    let taken = cuts-taken cuts number word cut (sym c.is_passed_over.ensures ∙ c.if-is_passed_over.false) in
    let full = eqb-true _ _ (sym c.is_full.ensures.value ∙ c.if-is_full.true) in
    let none = first-full c.loop-number.parts.items _ (join_cuts (drop (number + 1) cuts)) word c.in_ok-part.part taken (sym c.plain_part.ensures ∙ c.in_ok-part.was) (omega arith) in
    sym (ap (option_and_then within_limit) (sym c.loop-number.invariant.all) ∙ none)

pub loop-number-preserved : goal.loop-number-preserved
loop-number-preserved c =
    let cuts = slice_split is_space c.args.list.now in
    let number = c.loop-number.number in
    let front = c.loop-number.parts.items in
    let word = c.in-Some.word.now in
    let part = c.in_ok-part.part in
    let cut = sym c.part_at.ensures ∙ ap option_copied c.in-Some.is in
    let taken = cuts-taken cuts number word cut (sym c.is_passed_over.ensures ∙ c.if-is_passed_over.false) in
    let more = first-more front _ (join_cuts (drop (number + 1) cuts)) word part taken (sym c.plain_part.ensures ∙ c.in_ok-part.was) in
    let room : length front < 32 = grind (arith, nat_tests) in
    let fits : length (front ++ part ∷ []) ≤ 32 = omega (arith, length-append front (part ∷ [])) in
    record {
      all = ap (λ items. joined items (parts_of (join_cuts (drop (number + 1) cuts)))) c.push.ensures.items ∙ sym more ∙ c.loop-number.invariant.all;
      fits = rw c.push.ensures.items fits;
    }

pub returns : goal.returns
unfolding final_of
returns c =
    let cuts = slice_split is_space c.args.list.now in
    let front = c.loop-number.parts.items in
    let none = drop_all c.loop-number.number cuts (omega (arith, length-cuts c.args.list.now)) in
    let all = sym c.loop-number.invariant.all ∙ ap (λ rest. joined front (parts_of (join_cuts rest))) none in
    sym (ap (option_and_then within_limit) all ∙ all-taken front c.loop-number.invariant.fits)
