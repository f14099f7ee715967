use Rattle.std.proofs.Common.{◌∙◌, ap}
use Rattle.connection_turns.specs.inside.Steps.{messages_of}
use Rattle.connection_turns.proofs.TurnLemmas.{CarriesOn-answered, CarriesOn-gave, CarriesOn-same, CarriesOn-took, none-answered}
use Rattle.connection_turns.proofs.turn.take_step.Goals as goal

pub returns-in-Read-clause-carries : goal.returns-in-Read-clause-carries
returns-in-Read-clause-carries g c =
    CarriesOn-same g.A.Answer.steps g.K.Clock.tells _ _ _ _ _ _ _ c.wants_of.ensures.history

pub returns-in-Read-2-clause-carries : goal.returns-in-Read-2-clause-carries
returns-in-Read-2-clause-carries g c =
    CarriesOn-took g.A.Answer.steps g.K.Clock.tells _ _ _ _ _ _ _ _ _ (λ p h. c.receive-reader.ensures.takes p (c.wants_of.ensures.history p h)) (none-answered _ c.receive-reader.ensures.moves)

pub returns-in-Write-clause-carries : goal.returns-in-Write-clause-carries
returns-in-Write-clause-carries g c =
    CarriesOn-same g.A.Answer.steps g.K.Clock.tells _ _ _ _ _ _ _ c.wants_of.ensures.history

pub returns-in-Write-2-clause-carries : goal.returns-in-Write-2-clause-carries
returns-in-Write-2-clause-carries g c =
    CarriesOn-gave g.A.Answer.steps g.K.Clock.tells _ _ _ _ _ _ _ _ _ (λ p h. c.send-writer.ensures.gives p (c.wants_of.ensures.history p h)) (none-answered _ c.send-writer.ensures.moves)

pub returns-then-not-may_pass-clause-carries : goal.returns-then-not-may_pass-clause-carries
returns-then-not-may_pass-clause-carries g c =
    CarriesOn-same g.A.Answer.steps g.K.Clock.tells _ _ _ _ _ _ _ c.wants_of.ensures.history

pub returns-else-not-may_pass-clause-carries : goal.returns-else-not-may_pass-clause-carries
returns-else-not-may_pass-clause-carries g c =
    CarriesOn-answered g.A.Answer.steps g.K.Clock.tells _ _ _ _ _ _ _ _ _ _ _ c.moment-now.ensures (λ p h. c.answer.ensures.history p (c.wants_of.ensures.history p h))
    (λ none. c.answer.ensures.gathers (c.answer.ensures.piece ∙ c.wants_of.ensures.piece ∙ none)) (ap messages_of c.step_of_answer.ensures)

pub returns-in-Nothing-clause-carries : goal.returns-in-Nothing-clause-carries
returns-in-Nothing-clause-carries g c =
    CarriesOn-same g.A.Answer.steps g.K.Clock.tells _ _ _ _ _ _ _ c.wants_of.ensures.history
