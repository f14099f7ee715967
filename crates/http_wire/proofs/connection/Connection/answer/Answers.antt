use Rattle.std.proofs.Common.{◌≡◌, ◌++◌, ◌∷◌, ◌∙◌, Some, IfSome, [], ap, refl, sym, subst}
use Rattle.http_wire.specs.Incoming.{map_incoming}
use Rattle.http_wire.specs.Layout.{framed_at}
use Rattle.http_wire.specs.OnConnection.{OnConnection, body_in, phase_after}
use Rattle.http_wire.specs.History.{HasHistory, NotesBy}
use Rattle.http_wire.specs.declared.read.pieces.PiecedBody.{PiecedBody}
use Rattle.http_wire.specs.inside.Phases.{Gathers, IsPhase, map_phase}
use Rattle.http_wire.specs.inside.PieceAnswer.{AnswersOwed}
use Rattle.http_wire.specs.inside.TurnFinish.{AnswersTurn}
use Rattle.http_wire.proofs.HistoryLemmas.{History-owing, onto}
use Rattle.http_wire.proofs.PhaseLemmas.{IsConnection-after, gathers, map-after}
use Rattle.http_wire.proofs.PieceHistoryLemmas.{AnswersOwed-piece, History-piece, IsConnection-piece, answer_to}
use Rattle.http_wire.proofs.connection.Connection.answer.Goals as goal

pub invariant_of-self : goal.invariant_of-self
invariant_of-self g c = IsConnection-after _ _ _ _ _ c.self.invariant.size c.self.invariant.some c.after-self-inside.ensures

pub returns-in-Owing-clause-history : goal.returns-in-Owing-clause-history
returns-in-Owing-clause-history g c =
    let read_buffer = c.self.inside.buffers.read_buffer in
    let f = framed_at read_buffer.lent in
    let i = map_incoming f c.in-Owing.incoming in
    let turn = c.answer_incoming-turn in
    let a = turn.ensures.answers in
    let piece = c.self.inside.piece in
    let old : OnConnection = record { read_buffer = read_buffer; phase = map_phase f c.self.inside.phase; write_buffer = c.self.inside.buffers.write_buffer; limits = c.self.inside.limits; piece = piece } in
    let gathered = subst (Gathers piece read_buffer) c.in-Owing.is c.self.invariant.gathered in
    let phase = map-after (framed_at turn.new.buffers.read_buffer.lent) c.after-self-inside.result _ (c.after-self-inside.ensures ∙ ap phase_after turn.ensures.end) in
    λ p h. (
      a.3,
      a.4,
      a.5,
      History-owing p c.args.now i a.0 a.3 old _ _ _ (subst (AnswersTurn (NotesBy piece) c.args.now read_buffer i a.0 p.answered (p.answered ++ a.3)) turn.ensures.end (a.6 piece p.answered gathered)) a.1 turn.ensures.read_buffer phase
          (subst (λ q. HasHistory p (record old { phase = map_phase f q })) c.in-Owing.is (subst (HasHistory p) (sym c.self.view_is) h)),
    )

pub invariant_of-self-in-Piece : goal.invariant_of-self-in-Piece
invariant_of-self-in-Piece g c =
    let a = c.answer_piece-self-inside.ensures in
    let size = subst (λ q. IfSome (body_in q) (λ (b : PiecedBody). c.self.inside.piece ≡ Some b.piece)) c.in-Piece.is c.self.invariant.body in
    IsConnection-piece c.args.now c.in-Piece.body c.in-Piece.part a.0 _ _ _ _ _ _ _ c.self.invariant.size size (subst (IsPhase c.self.inside.buffers.read_buffer) c.in-Piece.is c.self.invariant.phase) a.2

pub returns-in-Piece-clause-history : goal.returns-in-Piece-clause-history
returns-in-Piece-clause-history g c =
    let read_buffer = c.self.inside.buffers.read_buffer in
    let f = framed_at read_buffer.lent in
    let a = c.answer_piece-self-inside.ensures in
    let body = c.in-Piece.body in
    let old : OnConnection = record { read_buffer = read_buffer; phase = map_phase f c.self.inside.phase; write_buffer = c.self.inside.buffers.write_buffer; limits = c.self.inside.limits; piece = c.self.inside.piece } in
    let size = subst (λ q. IfSome (body_in q) (λ (b : PiecedBody). c.self.inside.piece ≡ Some b.piece)) c.in-Piece.is c.self.invariant.body in
    λ p h. (
      answer_to body read_buffer c.args.now a.0 ∷ [],
      (_, a.1, refl),
      (refl, refl),
      History-piece _ p c.args.now body c.in-Piece.part a.0 old _ _ _ (subst (IsPhase read_buffer) c.in-Piece.is c.self.invariant.phase) size a.2
          (subst (λ q. HasHistory p (record old { phase = map_phase f q })) c.in-Piece.is (subst (HasHistory p) (sym c.self.view_is) h)),
    )

pub returns-in-Owing-clause-gathers : goal.returns-in-Owing-clause-gathers
returns-in-Owing-clause-gathers g c none = gathers _ c.after-self-inside.result c.self.inside.piece (invariant_of-self g c).body none

pub returns-in-Piece-clause-gathers : goal.returns-in-Piece-clause-gathers
returns-in-Piece-clause-gathers g c none = gathers _ c.answer_piece-self-inside.result c.self.inside.piece (invariant_of-self-in-Piece g c).body none

pub returns-in-Piece-clause-pieces : goal.returns-in-Piece-clause-pieces
returns-in-Piece-clause-pieces g c =
    let read_buffer = c.self.inside.buffers.read_buffer in
    let f = framed_at read_buffer.lent in
    let new = c.answer_piece-self-inside.new in
    let a = c.answer_piece-self-inside.ensures in
    let result = c.answer_piece-self-inside.result in
    let old : OnConnection = record { read_buffer = read_buffer; phase = map_phase f c.self.inside.phase; write_buffer = c.self.inside.buffers.write_buffer; limits = c.self.inside.limits; piece = c.self.inside.piece } in
    let h = framed_at new.buffers.read_buffer.lent in
    subst (λ (o : OnConnection). AnswersOwed g.A.Answer.steps c.args.now c.args.answerer.now new.answerer o (onto old new.buffers.read_buffer (map_phase h result) new.buffers.write_buffer) o.phase) c.self.view_is
    (AnswersOwed-piece g.A.Answer.steps f h c.args.now c.in-Piece.body c.in-Piece.part a.0 c.args.answerer.now new.answerer old new.buffers.read_buffer new.buffers.write_buffer c.self.inside.phase result c.in-Piece.is a.1 a.2)
