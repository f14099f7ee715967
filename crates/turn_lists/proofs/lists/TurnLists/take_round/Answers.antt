use Rattle.std.proofs.Common.{◌≡◌, suc, ◌+◌, ◌-◌, ◌∙◌, ap, arith, of_calls, sym}
use Rattle.turn_lists.specs.Rounds.{after_turn}
use Rattle.turn_lists.proofs.RoundLemmas.{had-round, moves-first, none-left, one-more, still-there}
use Rattle.turn_lists.proofs.lists.TurnLists.take_round.Goals as goal

pub loop-preserved : goal.loop-preserved
loop-preserved g c =
    let count : c.len-end.result - c.loop.counter ≡ suc (c.len-end.result - (c.loop.counter + 1)) = omega (arith, c.loop-test.true) in
    let moves = moves-first c.args.list c.turn-next.result c.loop.self c.place.new.self c.in-Some.key c.each_once.ensures.each_once
    (sym c.take_first.ensures.first ∙ c.in-Some.is) (c.place.ensures ∙ ap (after_turn c.in-Some.key c.turn-next.result) c.take_first.ensures.rest) in
    record {
      callable = search of_calls;
      within = still-there c.args.list c.loop.self c.place.new.self c.in-Some.key c.turn-next.result _ _ moves count c.loop.invariant.within;
      completes = λ last new others. c.loop.invariant.completes last new
          (one-more (goal.F-step g) c.args.list c.loop.turn c.turn-next.new.self last c.loop.self c.place.new.self new c.in-Some.key c.turn-next.result
          _ _ c.turn-next.ensures moves count c.loop.invariant.within others);
    }

pub returns-clause-lists : goal.returns-clause-lists
returns-clause-lists g c =
    had-round (goal.F-step g) c.args.list c.args.turn c.loop.turn c.args.self.now c.loop.self
    (c.loop.invariant.completes c.loop.turn c.loop.self (none-left (goal.F-step g) c.args.list c.loop.turn c.loop.self _ (omega (arith, c.loop-test.false))))
