use Rattle.std.proofs.Common.{arith, ◌∙◌, ◌-◌, ◌+◌, refl}
use Rattle.std.proofs.lemmas.Result.{err_from_is_err_and}
use Rattle.connection_turns.proofs.TurnLemmas.{CarriesOn-gave, CarriesOn-none, CarriesOn-same, CarriesOn-then}
use Rattle.tus_program.proofs.TalkInPiecesLemmas.{all-had, on_ok-none}
use Rattle.tus_program.proofs.conversation.carry_on.Goals as goal

pub loop-init : goal.loop-init
loop-init g c = record {
  carries = CarriesOn-none g.A.Answer.steps g.K.Clock.tells _ _ _ _ _ _ _ (omega arith);
  left = omega arith;
  reader = c.requires.reader;
  writer = c.requires.writer;
  limits = refl;
  piece = refl;
}

pub loop-preserved-in-Continue-1 : goal.loop-preserved-in-Continue-1
loop-preserved-in-Continue-1 g c =
    let before = c.loop.invariant in
    let read = c.in_ok-read_once-in-Read.ensures in
    let looked = CarriesOn-then g.A.Answer.steps g.K.Clock.tells _ (4096 - c.loop.left) 0 (4096 - c.loop.left) _ _ _ (omega arith) before.carries _ before.piece
    (CarriesOn-same g.A.Answer.steps g.K.Clock.tells _ _ _ _ _ _ _ c.wants_of.ensures.history) in
    record {
      carries = CarriesOn-then g.A.Answer.steps g.K.Clock.tells _ (4096 - c.loop.left) read.carries.0 (4096 - c.loop.left) _ _ _ (omega (arith, read.carries.2)) looked _ (c.wants_of.ensures.piece ∙ before.piece) (read.carries.3 _);
      left = before.left;
      reader = read.reader;
      writer = before.writer;
      limits = read.limits ∙ c.wants_of.ensures.limits ∙ before.limits;
      piece = read.piece ∙ c.wants_of.ensures.piece ∙ before.piece;
    }

pub returns-in_err-read_once-in-Read-clause-carries : goal.returns-in_err-read_once-in-Read-clause-carries
returns-in_err-read_once-in-Read-clause-carries g c =
    let before = c.loop.invariant in
    let read = c.read_once.ensures in
    let looked = CarriesOn-then g.A.Answer.steps g.K.Clock.tells _ (4096 - c.loop.left) 0 (4096 - c.loop.left) _ _ _ (omega arith) before.carries _ before.piece
    (CarriesOn-same g.A.Answer.steps g.K.Clock.tells _ _ _ _ _ _ _ c.wants_of.ensures.history) in (
      (4096 - c.loop.left) + read.carries.0,
      omega (arith, read.carries.1, before.left, c.wants_of.ensures.some_read c.in-Read.is),
      CarriesOn-then g.A.Answer.steps g.K.Clock.tells _ (4096 - c.loop.left) read.carries.0 _ _ _ _ refl looked _ (c.wants_of.ensures.piece ∙ before.piece) (read.carries.3 _),
      on_ok-none _ _ _ (err_from_is_err_and c.from_residual.result c.from_residual.ensures.1).1,
    )

pub loop-preserved-in-Continue-branch-2 : goal.loop-preserved-in-Continue-branch-2
loop-preserved-in-Continue-branch-2 g c =
    let before = c.loop.invariant in
    let wrote = c.in_ok-write_once-in-Write.ensures in
    let looked = CarriesOn-then g.A.Answer.steps g.K.Clock.tells _ (4096 - c.loop.left) 0 (4096 - c.loop.left) _ _ _ (omega arith) before.carries _ before.piece
    (CarriesOn-same g.A.Answer.steps g.K.Clock.tells _ _ _ _ _ _ _ c.wants_of.ensures.history) in
    record {
      carries = CarriesOn-then g.A.Answer.steps g.K.Clock.tells _ (4096 - c.loop.left) 0 (4096 - c.loop.left) _ _ _ (omega arith) looked _ (c.wants_of.ensures.piece ∙ before.piece)
          (CarriesOn-gave g.A.Answer.steps g.K.Clock.tells _ 0 _ _ _ _ _ _ _ wrote.gives refl);
      left = before.left;
      reader = before.reader;
      writer = wrote.writer;
      limits = wrote.limits ∙ c.wants_of.ensures.limits ∙ before.limits;
      piece = wrote.piece ∙ c.wants_of.ensures.piece ∙ before.piece;
    }

pub returns-in_err-write_once-in-Write-clause-carries : goal.returns-in_err-write_once-in-Write-clause-carries
returns-in_err-write_once-in-Write-clause-carries g c =
    let before = c.loop.invariant in
    let looked = CarriesOn-then g.A.Answer.steps g.K.Clock.tells _ (4096 - c.loop.left) 0 (4096 - c.loop.left) _ _ _ (omega arith) before.carries _ before.piece
    (CarriesOn-same g.A.Answer.steps g.K.Clock.tells _ _ _ _ _ _ _ c.wants_of.ensures.history) in (
      4096 - c.loop.left,
      omega arith,
      CarriesOn-then g.A.Answer.steps g.K.Clock.tells _ (4096 - c.loop.left) 0 (4096 - c.loop.left) _ _ _ (omega arith) looked _ (c.wants_of.ensures.piece ∙ before.piece)
          (CarriesOn-gave g.A.Answer.steps g.K.Clock.tells _ 0 _ _ _ _ _ _ _ c.write_once.ensures.gives refl),
      on_ok-none _ _ _ (err_from_is_err_and c.from_residual-in_err-write_once-in-Write.result c.from_residual-in_err-write_once-in-Write.ensures.1).1,
    )

pub loop-preserved : goal.loop-preserved
loop-preserved g c =
    let before = c.loop.invariant in
    let answered = c.answer_once-left.ensures in
    let looked = CarriesOn-then g.A.Answer.steps g.K.Clock.tells _ (4096 - c.loop.left) 0 (4096 - c.loop.left) _ _ _ (omega arith) before.carries _ before.piece
    (CarriesOn-same g.A.Answer.steps g.K.Clock.tells _ _ _ _ _ _ _ c.wants_of.ensures.history) in
    record {
      carries = CarriesOn-then g.A.Answer.steps g.K.Clock.tells _ (4096 - c.loop.left) c.answer_once-left.result (4096 - (c.loop.left - c.answer_once-left.result)) _ _ _
          (omega (arith, answered.few, before.left, c.wants_of.ensures.some c.in-Answer.is)) looked _ (c.wants_of.ensures.piece ∙ before.piece) (answered.carries _ _);
      left = omega (arith, before.left);
      reader = before.reader;
      writer = before.writer;
      limits = answered.limits ∙ c.wants_of.ensures.limits ∙ before.limits;
      piece = answered.piece ∙ c.wants_of.ensures.piece ∙ before.piece;
    }

pub returns-in-Nothing-clause-carries : goal.returns-in-Nothing-clause-carries
returns-in-Nothing-clause-carries g c =
    let before = c.loop.invariant in (
      4096 - c.loop.left,
      omega arith,
      CarriesOn-then g.A.Answer.steps g.K.Clock.tells _ (4096 - c.loop.left) 0 (4096 - c.loop.left) _ _ _ (omega arith) before.carries _ before.piece
          (CarriesOn-same g.A.Answer.steps g.K.Clock.tells _ _ _ _ _ _ _ c.wants_of.ensures.history),
      all-had c.loop.left (c.wants_of.ensures.nothing c.in-Nothing.is),
    )
