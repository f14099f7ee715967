use Rattle.std.proofs.Common.{ℕ, ◌∷◌, ◌++◌, [], sym, subst, subst₂}
use Rattle.std.proofs.lemmas.Result.{IfErr-weaker, IfOk-weaker}
use Rattle.std.specs.Io.KnownBytes.{Appends, Consumes}
use Rattle.http_wire.specs.RequestLimits.{alike}
use Rattle.http_wire.specs.Turns.{Breaks, Converses}
use Rattle.http_wire.proofs.CarriedLemmas.{Breaks-carried, Converses-carried}
use Rattle.http_wire.proofs.ConversationLemmas.{timed_weaker}
use Rattle.tus_shared.specs.Desk.{Desk}
use Rattle.tus_workers.specs.Serving.{ServesTurn}
use Rattle.tus_steps.specs.Request.{Request}
use Rattle.tus_steps.specs.declared.reply.Reply.{Reply}
use Rattle.tus_workers.proofs.stream.serve_stream.Goals as goal

pub returns-clause-converses : goal.returns-clause-converses
returns-clause-converses g c =
    let parts = c.into_parts-reader.ensures in
    let steps : Desk → Request → ℕ → Reply → Desk → Type 0 = λ old request now reply new. ServesTurn g.C.Charges.settings request now reply old new in
    let limits = alike g.C.Charges.settings.numbers.max_size in
    IfOk-weaker c.serve-ended.result _ _ (λ e h. (
      h.0,
      h.1,
      h.2,
      h.3,
      subst (λ r. Consumes (g.I.Source.remaining c.args.reader) (g.I.Source.remaining r) h.2) (sym parts.reader) (rw c.with_buffers-wire.ensures at h.4),
      subst (λ w. Appends (g.O.Sink.contents c.args.writer) (g.O.Sink.contents w) h.3) (sym parts.writer) (rw c.with_buffers-wire.ensures at h.5),
      subst₂ (λ before after. Converses steps limits h.0 (record { input = h.2; text = h.3; before = before; after = after }) e) c.new-answerer.ensures (sym c.into_desk.ensures)
          (Converses-carried (λ a. a.desk) _ steps (λ a r now reply b step. step) limits h.0 _ e (rw (c.with_buffers-wire.ensures, c.max_size.ensures.value) at h.6)),
    )) c.serve-ended.ensures.converses

pub returns-clause-breaks : goal.returns-clause-breaks
returns-clause-breaks g c =
    let parts = c.into_parts-reader.ensures in
    let steps : Desk → Request → ℕ → Reply → Desk → Type 0 = λ old request now reply new. ServesTurn g.C.Charges.settings request now reply old new in
    let limits = alike g.C.Charges.settings.numbers.max_size in
    IfErr-weaker c.serve-ended.result _ _ (λ f h. (
      h.0,
      h.1,
      h.2,
      h.3,
      timed_weaker (λ failed. failed) (λ now turn. (
        turn.0,
        turn.1,
        subst (λ r. Consumes (g.I.Source.remaining c.args.reader) (g.I.Source.remaining r) turn.0) (sym parts.reader) (rw c.with_buffers-wire.ensures at turn.2),
        subst (λ w. Appends (g.O.Sink.contents c.args.writer) (g.O.Sink.contents w) turn.1) (sym parts.writer) (rw c.with_buffers-wire.ensures at turn.3),
        subst₂ (λ before after. Breaks steps limits (h.0 ++ now ∷ []) (record { input = turn.0; text = turn.1; before = before; after = after }) f) c.new-answerer.ensures (sym c.into_desk.ensures)
            (Breaks-carried (λ a. a.desk) _ steps (λ a r now reply b step. step) limits (h.0 ++ now ∷ []) _ f (rw (c.with_buffers-wire.ensures, c.max_size.ensures.value) at turn.4)),
      )) h.4,
    )) c.serve-ended.ensures.breaks
