use Rattle.std.proofs.Common.{arith, ◌∙◌, refl}
use Rattle.connection_turns.proofs.TurnLemmas.{CarriesOn-then, CarriesOn-took, History-read}
use Rattle.tus_program.proofs.TalkInPiecesLemmas.{piece-read}
use Rattle.tus_program.proofs.conversation.read_once.Goals as goal

pub returns-then-is_ok-clause-carries : goal.returns-then-is_ok-clause-carries
returns-then-is_ok-clause-carries g c =
    let read = c.read_from.ensures in (
      0,
      omega arith,
      refl,
      λ written. CarriesOn-took g.A.Answer.steps g.K.Clock.tells _ _ _ _ _ _ _ _ _ (λ p h. History-read c.read_from.result _ _ _ _ read.takes read.none read.kept p h) refl,
    )

pub returns-then-eq-clause-carries : goal.returns-then-eq-clause-carries
returns-then-eq-clause-carries g c =
    let read = c.read_from.ensures in (
      c.answer_once.result,
      c.answer_once.ensures.few,
      tt {0},
      λ written.
          CarriesOn-then g.A.Answer.steps g.K.Clock.tells _ 0 c.answer_once.result c.answer_once.result _ _ _ (omega arith)
          (CarriesOn-took g.A.Answer.steps g.K.Clock.tells _ 0 _ _ _ _ _ _ _
          (λ p h.
          let t = History-read c.read_from.result _ _ _ _ read.takes read.none read.kept p h in
          (t.0, t.1, c.wants.ensures.history _ (c.fail.ensures.history _ t.2)))
          refl)
          _ (c.wants.ensures.piece ∙ c.fail.ensures.piece ∙ piece-read c.read_from.result _ _ _ _ read.takes read.none) (c.answer_once.ensures.carries _ written),
    )

pub returns-else-eq-clause-carries : goal.returns-else-eq-clause-carries
returns-else-eq-clause-carries g c =
    let read = c.read_from.ensures in (
      0,
      omega arith,
      tt {0},
      λ written.
          CarriesOn-took g.A.Answer.steps g.K.Clock.tells _ 0 _ _ _ _ _ _ _
          (λ p h.
          let t = History-read c.read_from.result _ _ _ _ read.takes read.none read.kept p h in
          (t.0, t.1, c.wants.ensures.history _ (c.fail.ensures.history _ t.2)))
          refl,
    )
