use Rattle.std.proofs.Common.{eqb, ◌+◌, take, drop, sym, ap, ◌∙◌, rules, tests, arith}
use Rattle.std.specs.List.{position_or_len}
use Rattle.std.proofs.lemmas.Iterator.{YieldsList-from_slice}
use Rattle.std.proofs.lemmas.Iterator.Search.{position_from_yields_List}
use Rattle.std.proofs.lemmas.List.{take_rest, take_all, drop_all}
use Rattle.tus_text.proofs.PositionLemmas.{position-found, position-absent}
use Rattle.tus_text.proofs.cut.split_at_first.Goals as goal

pub returns-in-Some-clause-before : goal.returns-in-Some-clause-before
returns-in-Some-clause-before c =
    let text = c.args.text.now in
    let answer = position_from_yields_List (λ b. eqb b c.args.mark) _ _ c.position.result c.position.ensures.ran (YieldsList-from_slice text cc) (λ x b q k. search (rules, tests)) in
    let found = position-found (λ b. eqb b c.args.mark) text _ c.in-Some.place answer c.in-Some.is in
    ap (λ n. take n text) (sym found.place)

pub returns-in-Some-clause-after : goal.returns-in-Some-clause-after
returns-in-Some-clause-after c =
    let text = c.args.text.now in
    let answer = position_from_yields_List (λ b. eqb b c.args.mark) _ _ c.position.result c.position.ensures.ran (YieldsList-from_slice text cc) (λ x b q k. search (rules, tests)) in
    let found = position-found (λ b. eqb b c.args.mark) text _ c.in-Some.place answer c.in-Some.is in
    take_rest text (c.in-Some.place + 1) ∙ ap (λ n. drop (n + 1) text) (sym found.place)

pub returns-in-None-clause-before : goal.returns-in-None-clause-before
returns-in-None-clause-before c =
    let text = c.args.text.now in
    let answer = position_from_yields_List (λ b. eqb b c.args.mark) _ _ c.position.result c.position.ensures.ran (YieldsList-from_slice text cc) (λ x b q k. search (rules, tests)) in
    let absent = position-absent (λ b. eqb b c.args.mark) text _ answer c.in-None.is in
    sym (take_all (position_or_len (λ b. eqb b c.args.mark) text) text (omega arith))

pub returns-in-None-clause-after : goal.returns-in-None-clause-after
returns-in-None-clause-after c =
    let text = c.args.text.now in
    let answer = position_from_yields_List (λ b. eqb b c.args.mark) _ _ c.position.result c.position.ensures.ran (YieldsList-from_slice text cc) (λ x b q k. search (rules, tests)) in
    let absent = position-absent (λ b. eqb b c.args.mark) text _ answer c.in-None.is in
    sym (drop_all (position_or_len (λ b. eqb b c.args.mark) text + 1) text (omega arith))
