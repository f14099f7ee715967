use Rattle.std.proofs.Common.{ℕ, Bool, take, sym, ap, ◌∙◌, rules, tests, arith}
use Rattle.std.specs.Bool.{◌==◌}
use Rattle.std.specs.List.{position_or_len}
use Rattle.std.proofs.lemmas.Iterator.{YieldsList-from_slice}
use Rattle.std.proofs.lemmas.Iterator.Search.{position_from_yields_List}
use Rattle.std.proofs.lemmas.List.{take_all}
use Rattle.tus_text.proofs.PositionLemmas.{position-found, position-absent}
use Rattle.tus_steps.proofs.media.before_semicolon.Goals as goal

abbrev is_semicolon : ℕ → Bool
is_semicolon b = b == 59

pub returns-in-Some : goal.returns-in-Some
returns-in-Some c =
    let text = c.args.value.now in
    let answer = position_from_yields_List is_semicolon _ _ c.position.result c.position.ensures.ran (YieldsList-from_slice text cc) (λ x b q k. search (rules, tests)) in
    let found = position-found is_semicolon text _ c.in-Some.end answer c.in-Some.is in
    c.split_at.ensures.front ∙ ap (λ n. take n text) (sym found.place)

pub returns-in-None : goal.returns-in-None
returns-in-None c =
    let text = c.args.value.now in
    let answer = position_from_yields_List is_semicolon _ _ c.position.result c.position.ensures.ran (YieldsList-from_slice text cc) (λ x b q k. search (rules, tests)) in
    let absent = position-absent is_semicolon text _ answer c.in-None.is in
    sym (take_all (position_or_len is_semicolon text) text (omega arith))
