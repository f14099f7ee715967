use Rattle.std.proofs.Common.{◌∙◌, refl}
use Rattle.connection_turns.proofs.TurnLemmas.{SendsOn-none, SendsOn-then}
use Rattle.connection_turns.proofs.sending.send_pending.Goals as goal

pub loop-init : goal.loop-init
loop-init g c = record { sends = SendsOn-none _ _; limits = refl; piece = refl }

pub returns-in-Stops-clause-sends : goal.returns-in-Stops-clause-sends
returns-in-Stops-clause-sends g c = SendsOn-then _ _ _ _ _ _ c.loop.invariant.sends c.send-after.ensures.gives

pub returns-in-Stops-clause-limits : goal.returns-in-Stops-clause-limits
returns-in-Stops-clause-limits g c = c.send-after.ensures.limits ∙ c.loop.invariant.limits

pub returns-in-Stops-clause-piece : goal.returns-in-Stops-clause-piece
returns-in-Stops-clause-piece g c = c.send-after.ensures.piece ∙ c.loop.invariant.piece

pub loop-preserved : goal.loop-preserved
loop-preserved g c = record {
  sends = SendsOn-then _ _ _ _ _ _ c.loop.invariant.sends c.send-after.ensures.gives;
  limits = c.send-after.ensures.limits ∙ c.loop.invariant.limits;
  piece = c.send-after.ensures.piece ∙ c.loop.invariant.piece;
}

pub returns-clause-sends : goal.returns-clause-sends
returns-clause-sends g c = c.loop.invariant.sends

pub returns-clause-limits : goal.returns-clause-limits
returns-clause-limits g c = c.loop.invariant.limits

pub returns-clause-piece : goal.returns-clause-piece
returns-clause-piece g c = c.loop.invariant.piece
