-- One turn: what was read and written is the turn of its message.
use Rattle.std.proofs.Common.{◌≡◌, ℕ, true, false, List, [], ◌++◌, Option, Result, Ok, Err, take, refl, sym, ap, subst, inl, inr, append-nil}
use Rattle.tus_steps.specs.Request.{Request}
use Rattle.tus_steps.specs.declared.reply.Reply.{Reply}
use Rattle.http_wire.specs.Asking.{BreaksAnswer}
use Rattle.http_wire.specs.inside.Ahead.{Ahead}
use Rattle.http_wire.specs.inside.TurnFinish.{FinishesIn}
use Rattle.http_wire.specs.Conversation.{continue_text}
use Rattle.http_wire.specs.Exchange.{Exchange, followed}
use Rattle.http_wire.specs.NextMessage.{NextMessage, message, refused, cut_patch, cut_other, clean_end, IsNextMessage}
use Rattle.http_wire.specs.ReadOnWire.{waits, ComesIn, BreaksMessage}
use Rattle.http_wire.specs.Layout.{framed_at, request_at}
use Rattle.http_wire.specs.ReplyText.{reply_text, refusal_text}
use Rattle.http_wire.specs.Turns.{TakesTurn, Answered, LastTurn, FailsToAnswer, FailsIn, BreaksTurn}
use Rattle.http_wire.proofs.ConversationLemmas.{Conversation-closed}
use Rattle.http_wire.specs.declared.conversation.Ended.{Ended}
use Rattle.http_wire.specs.declared.conversation.Ended.TheVariants as ended
use Rattle.http_wire.specs.declared.fault.WireFault.{WireFault}
use Rattle.http_wire.specs.declared.fault.WireFault.TheVariants.{Read, Write, Memory, Failed}
use Rattle.http_wire.specs.declared.framing.Framing.{Framing}
use Rattle.http_wire.specs.declared.read.layout.Layout.{Layout}
use Rattle.http_wire.specs.declared.incoming.Cut.{Cut}
use Rattle.http_wire.specs.declared.incoming.Incoming.TheVariants as incoming
use Rattle.http_wire.specs.declared.refusal.WireRefusal.{WireRefusal}
use Rattle.http_wire.specs.declared.request_limits.RequestLimits.{RequestLimits}

module _ {A : Type 0} (steps : A → Request → ℕ → Reply → A → Type 0) (limits : RequestLimits) where
  -- what passes where a text is written after what was written while a message came in
  abbrev with_text : Exchange A → List ℕ → Exchange A
  with_text x text = record x { text = x.text ++ text }

  -- a message is answered, and the connection stays open
  pub MessageTurn-stays : (now : ℕ) (x : Exchange A) (a : Ahead) (p : Layout) (reply : Reply) → ComesIn limits (record { input = x.input; text = x.text }) a.held (incoming.Message (framed_at a.lent p))
      → steps x.before (request_at p a.lent) now reply x.after → p.framing.close ≡ false → (rest : List ℕ)
      → Answered steps limits now (followed (with_text x (reply_text reply now p.framing)) rest) (a.held ++ rest)
  MessageTurn-stays now x a p reply f step stays rest = record {
    request = request_at p a.lent;
    framing = p.framing;
    waiting = f.0;
    reply = reply;
    next_message = f.2 rest;
    stays = stays;
    step = step;
    wrote = ap (λ l. l ++ reply_text reply now p.framing) f.1;
  }

  -- a message is answered, and the connection closes
  pub MessageTurn-closed : (now : ℕ) (x : Exchange A) (a : Ahead) (p : Layout) (reply : Reply) → ComesIn limits (record { input = x.input; text = x.text }) a.held (incoming.Message (framed_at a.lent p))
      → steps x.before (request_at p a.lent) now reply x.after → p.framing.close ≡ true → (rest : List ℕ)
      → LastTurn steps limits now (followed (with_text x (reply_text reply now p.framing)) rest) ended.Closed
  MessageTurn-closed now x a p reply f step close rest moments =
      let text = reply_text reply now p.framing in
      Conversation-closed steps limits now moments (followed (with_text x text) rest) (request_at p a.lent) p.framing f.0 (a.held ++ rest) reply (f.2 rest) step close (ap (λ l. l ++ text) f.1)

  -- a request is refused
  pub MessageTurn-refused : (now : ℕ) (x : Exchange A) (a : Ahead) (why : WireRefusal) (framing : Framing) → ComesIn limits (record { input = x.input; text = x.text }) a.held (incoming.Refused why framing)
      → x.after ≡ x.before → (rest : List ℕ) → LastTurn steps limits now (followed (with_text x (refusal_text why now framing)) rest) ended.Closed
  MessageTurn-refused now x a why framing f same rest moments =
      (refused why framing, f.1 rest, record { ended = refl; text = ap (λ l. l ++ refusal_text why now framing) f.0; same = same })

  -- a PATCH was cut, and is applied with the bytes that came
  pub MessageTurn-cut_patch : (now : ℕ) (x : Exchange A) (a : Ahead) (p : Layout) (why : Cut) (reply : Reply) → ComesIn limits (record { input = x.input; text = x.text }) a.held (incoming.CutPatch (framed_at a.lent p) why)
      → steps x.before (request_at p a.lent) now reply x.after → LastTurn steps limits now x ended.Cut
  MessageTurn-cut_patch now x a p why reply f step moments =
      (cut_patch (request_at p a.lent) p.framing f.0, f.2, (reply, step, refl, f.1))

  -- another message was cut
  pub MessageTurn-cut_other : (now : ℕ) (x : Exchange A) (a : Ahead) → ComesIn limits (record { input = x.input; text = x.text }) a.held incoming.CutOther → x.after ≡ x.before → LastTurn steps limits now x ended.Cut
  MessageTurn-cut_other now x a f same moments = (cut_other f.0, f.2, record { ended = refl; text = f.1; same = same })

  -- the input ended between two messages
  pub MessageTurn-end : (now : ℕ) (x : Exchange A) → (x.text ≡ []) × IsNextMessage limits x.input clean_end → x.after ≡ x.before → LastTurn steps limits now x ended.Input
  MessageTurn-end now x f same moments = (clean_end, f.1, record { ended = refl; text = f.0; same = same })

  -- nothing follows
  pub LastTurn-alone : (now : ℕ) (x : Exchange A) (rest : List ℕ) (e : Ended) → LastTurn steps limits now x e → rest ≡ [] → LastTurn steps limits now (followed x rest) e
  LastTurn-alone now x rest e h none =
      rw none (subst (λ (i : List ℕ). LastTurn steps limits now (record x { input = i }) e) (sym (append-nil x.input)) h)

  fails_waiting : (now n : ℕ) (f : NextMessage) (x : Exchange A) → waits f ≡ true → x.after ≡ x.before → x.text ≡ take n (continue_text true) → FailsIn steps limits now f x
  fails_waiting now n (message request framing waiting rest) x w same part = inl (w, same, (n, part))
  fails_waiting now n (refused why framing) x w same part = absurd cc
  fails_waiting now n (cut_patch request framing waiting) x w same part = (w, same, (n, part))
  fails_waiting now n (cut_other waiting) x w same part = (w, same, (n, part))
  fails_waiting now n clean_end x w same part = absurd cc

  -- the next message could not be read, or `100 Continue` could not be written
  pub BreaksTurn-next_message : (now : ℕ) (x : Exchange A) (e : WireFault) → BreaksMessage limits (record { input = x.input; text = x.text }) e → x.after ≡ x.before → BreaksTurn steps limits now x e
  BreaksTurn-next_message now x Read (inl f) same = (ended.Cut, tt, λ moments. (cut_other f.0, f.2, record { ended = refl; text = f.1; same = same }))
  BreaksTurn-next_message now x Read (inr f) same = (ended.Input, tt, λ moments. (clean_end, f.1, record { ended = refl; text = f.0; same = same }))
  BreaksTurn-next_message now x Write f same = (f.0, f.1, fails_waiting now f.3.0 f.0 x f.2 same f.3.1)
  BreaksTurn-next_message now x Memory f same = absurd f
  BreaksTurn-next_message now x Failed f same = absurd f

  -- an answer that could not be written is a turn that was broken off
  fails_to_answer : (now : ℕ) (f : NextMessage) (x : Exchange A) → FailsToAnswer steps limits now f x → FailsIn steps limits now f x
  fails_to_answer now (message request framing waiting rest) x h = inr h
  fails_to_answer now (refused why framing) x h = h
  fails_to_answer now (cut_patch request framing waiting) x h = absurd h
  fails_to_answer now (cut_other waiting) x h = absurd h
  fails_to_answer now clean_end x h = absurd h

  -- a turn that was broken off while it was answered is one that was broken off
  pub BreaksTurn-answer : (now : ℕ) (x : Exchange A) (e : WireFault) → BreaksAnswer steps limits now x e → BreaksTurn steps limits now x e
  BreaksTurn-answer now x Read h =
      (ended.Cut, tt, λ moments. (cut_patch h.request h.framing h.waiting, h.next_message, (h.reply, h.step, refl, h.wrote)))
  BreaksTurn-answer now x Write h = (h.0, h.1, fails_to_answer now h.0 x h.2)
  BreaksTurn-answer now x Memory h = h
  BreaksTurn-answer now x Failed h = h

  -- a turn that was finished was taken
  pub TakesTurn-finished : (now : ℕ) (x : Exchange A) (held : List ℕ) (r : Result (Option Ended) WireFault) → FinishesIn steps limits now x held r → TakesTurn steps limits now x held r
  TakesTurn-finished now x held (Ok e) h = h
  TakesTurn-finished now x held (Err fault) h = BreaksTurn-answer now x fault h

  -- the reply could not be written
  pub BreaksAnswer-reply : (now n : ℕ) (x : Exchange A) (a : Ahead) (p : Layout) (reply : Reply) → ComesIn limits (record { input = x.input; text = x.text }) a.held (incoming.Message (framed_at a.lent p))
      → steps x.before (request_at p a.lent) now reply x.after → BreaksAnswer steps limits now (with_text x (take n (reply_text reply now p.framing))) Write
  BreaksAnswer-reply now n x a p reply f step = (
    message (request_at p a.lent) p.framing f.0 (a.held ++ []),
    subst (λ i. IsNextMessage limits i (message (request_at p a.lent) p.framing f.0 (a.held ++ []))) (append-nil x.input) (f.2 []),
    (reply, n, step, ap (λ l. l ++ take n (reply_text reply now p.framing)) f.1),
  )

  -- the refusal could not be written
  pub BreaksAnswer-refusal : (now n : ℕ) (x : Exchange A) (a : Ahead) (why : WireRefusal) (framing : Framing)
      → ComesIn limits (record { input = x.input; text = x.text }) a.held (incoming.Refused why framing) → x.after ≡ x.before → BreaksAnswer steps limits now (with_text x (take n (refusal_text why now framing))) Write
  BreaksAnswer-refusal now n x a why framing f same = (
    refused why framing,
    subst (λ i. IsNextMessage limits i (refused why framing)) (append-nil x.input) (f.1 []),
    (same, (n, ap (λ l. l ++ take n (refusal_text why now framing)) f.0)),
  )

  -- a turn that a fault broke off
  pub TakesTurn-broken : (now : ℕ) (x : Exchange A) (held : List ℕ) (r : Result (Option Ended) WireFault) (e e2 : WireFault) → r ≡ Err e → e ≡ e2
      → BreaksTurn steps limits now x e2 → TakesTurn steps limits now x held r
  TakesTurn-broken now x held r e e2 is same h =
      subst (TakesTurn steps limits now x held) (sym is) (subst (BreaksTurn steps limits now x) (sym same) h)
