use Rattle.std.proofs.Common.{arith, rules, ◌∙◌, ap, refl}
use Rattle.connection_turns.specs.inside.Steps.{messages_of}
use Rattle.connection_turns.proofs.TurnLemmas.{CarriesOn-none, CarriesOn-then, left-after}
use Rattle.connection_turns.proofs.turn.take_turn.Goals as goal

pub loop-init : goal.loop-init
loop-init g c = record {
  carries = CarriesOn-none g.A.Answer.steps g.K.Clock.tells _ _ _ _ _ _ _ (omega arith);
  held = λ holds. refl;
  left = omega arith;
  limits = refl;
  piece = refl;
}

pub returns-in-Stops-clause-carries : goal.returns-in-Stops-clause-carries
returns-in-Stops-clause-carries g c =
    CarriesOn-then g.A.Answer.steps g.K.Clock.tells _ _ _ _ _ _ _ (omega (arith, ap messages_of c.in-Stops.is)) c.loop.invariant.carries _ c.loop.invariant.piece c.take_step-after.ensures.carries

pub loop-preserved : goal.loop-preserved
loop-preserved g c = record {
  carries = CarriesOn-then g.A.Answer.steps g.K.Clock.tells _ _ _ _ _ _ _
      (omega (arith, c.messages_in.ensures, left-after _ _ _ c.loop.invariant.left c.take_step-after.ensures.allowed)) c.loop.invariant.carries _ c.loop.invariant.piece c.take_step-after.ensures.carries;
  held = λ holds. c.take_step-after.ensures.held (rw holds refl) ∙ c.loop.invariant.held holds;
  left = search (rules, arith);
  limits = c.take_step-after.ensures.limits ∙ c.loop.invariant.limits;
  piece = c.take_step-after.ensures.piece ∙ c.loop.invariant.piece;
}
