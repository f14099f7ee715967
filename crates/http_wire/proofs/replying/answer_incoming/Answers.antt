use Rattle.std.proofs.Common.{[], ◌∷◌, refl, sym, append-nil}
use Rattle.http_wire.specs.Layout.{request_at}
use Rattle.http_wire.specs.History.{Answering, NotesBy}
use Rattle.http_wire.specs.ReplyText.{refusal_text, reply_text}
use Rattle.http_wire.proofs.FinishLemmas.{Answers-message, Answers-refused, Answers-cut_patch, Answers-cut_other, Answers-end, Answers-unnoted, NotesBy-one}
use Rattle.http_wire.proofs.PieceLemmas.{GathersIn-few}
use Rattle.http_wire.proofs.replying.answer_incoming.Goals as goal

pub returns-in-Message-clause-answers : goal.returns-in-Message-clause-answers
returns-in-Message-clause-answers g c =
    let read_buffer = c.args.buffers.now.read_buffer in
    let layout = c.in-Message.layout in
    let step = c.answer_message.ensures.answers in
    let answered : Answering = record { request = request_at layout read_buffer.lent; now = c.args.now; reply = step.0 } in
    rw (c.ended_after.ensures, c.in-Message.is) (
      reply_text step.0 c.args.now layout.framing,
      step.2,
      Answers-message g.A.Answer.steps c.args.now read_buffer layout step.0 _ _ layout.framing.close refl step.1,
      answered ∷ [],
      (_, step.1, refl),
      (refl, refl),
      λ piece before gathers. Answers-message (NotesBy piece) c.args.now read_buffer layout step.0 before _ layout.framing.close refl (NotesBy-one piece before answered (GathersIn-few piece layout read_buffer.lent gathers.0 gathers.1 gathers.2)),
    )

pub returns-in-Refused-clause-answers : goal.returns-in-Refused-clause-answers
returns-in-Refused-clause-answers g c =
    let read_buffer = c.args.buffers.now.read_buffer in
    rw (c.ended_after-in-Refused.ensures, c.in-Refused.is) (
      refusal_text c.in-Refused.refusal c.args.now c.in-Refused.framing,
      c.put_refusal.ensures,
      Answers-refused g.A.Answer.steps c.args.now read_buffer c.in-Refused.refusal c.in-Refused.framing _,
      [],
      refl,
      tt,
      λ piece before _. Answers-unnoted (NotesBy piece) c.args.now read_buffer _ _ before _ (Answers-refused (NotesBy piece) c.args.now read_buffer c.in-Refused.refusal c.in-Refused.framing before),
    )

pub returns-in-CutPatch-clause-answers : goal.returns-in-CutPatch-clause-answers
returns-in-CutPatch-clause-answers g c =
    let read_buffer = c.args.buffers.now.read_buffer in
    let layout = c.in-CutPatch.layout in
    let step = c.apply_cut.ensures.step in
    let answered : Answering = record { request = request_at layout read_buffer.lent; now = c.args.now; reply = step.0 } in
    rw (c.turn_cut.ensures, c.in-CutPatch.is, c.apply_cut.ensures.write_buffer) (
      [],
      sym (append-nil _),
      Answers-cut_patch g.A.Answer.steps c.args.now read_buffer layout c.in-CutPatch.why step.0 _ _ step.1,
      answered ∷ [],
      (_, step.1, refl),
      (refl, refl),
      λ piece before gathers. Answers-cut_patch (NotesBy piece) c.args.now read_buffer layout c.in-CutPatch.why step.0 before _ (NotesBy-one piece before answered (GathersIn-few piece layout read_buffer.lent gathers.0 gathers.1 gathers.2)),
    )

pub returns-in-CutOther-clause-answers : goal.returns-in-CutOther-clause-answers
returns-in-CutOther-clause-answers g c =
    let read_buffer = c.args.buffers.now.read_buffer in
    rw c.in-CutOther.is ([], sym (append-nil _), Answers-cut_other g.A.Answer.steps c.args.now read_buffer _, [], refl, tt, λ piece before _. Answers-unnoted (NotesBy piece) c.args.now read_buffer _ _ before _ (Answers-cut_other (NotesBy piece) c.args.now read_buffer before))

pub returns-in-End-clause-answers : goal.returns-in-End-clause-answers
returns-in-End-clause-answers g c =
    let read_buffer = c.args.buffers.now.read_buffer in
    rw c.in-End.is ([], sym (append-nil _), Answers-end g.A.Answer.steps c.args.now read_buffer _, [], refl, tt, λ piece before _. Answers-unnoted (NotesBy piece) c.args.now read_buffer _ _ before _ (Answers-end (NotesBy piece) c.args.now read_buffer before))
