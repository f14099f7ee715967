use Rattle.std.proofs.Common.{◌∙◌, sym}
use Rattle.connection_turns.proofs.TurnLemmas.{CarriesOn-answered}
use Rattle.tus_program.proofs.TalkInPiecesLemmas.{none-by, one-by}
use Rattle.tus_program.proofs.conversation.answer_once.Goals as goal

pub returns-then-is_in_pieces-clause-carries : goal.returns-then-is_in_pieces-clause-carries
returns-then-is_in_pieces-clause-carries g c unread written =
    CarriesOn-answered g.A.Answer.steps g.K.Clock.tells _ _ _ _ _ _ _ _ _ _ _ c.moment-now.ensures c.answer.ensures.history (λ none. c.answer.ensures.gathers (c.answer.ensures.piece ∙ none))
    (none-by _ (sym c.is_in_pieces.ensures ∙ c.if-is_in_pieces.true))

pub returns-else-is_in_pieces-clause-carries : goal.returns-else-is_in_pieces-clause-carries
returns-else-is_in_pieces-clause-carries g c unread written =
    CarriesOn-answered g.A.Answer.steps g.K.Clock.tells _ _ _ _ _ _ _ _ _ _ _ c.moment-now.ensures c.answer.ensures.history (λ none. c.answer.ensures.gathers (c.answer.ensures.piece ∙ none))
    (one-by _ (sym c.is_in_pieces.ensures ∙ c.if-is_in_pieces.false))
