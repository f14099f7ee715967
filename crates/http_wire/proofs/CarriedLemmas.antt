-- A conversation with what stands for something else is one with that.
use Rattle.std.proofs.Common.{ℕ, Bool, true, false, List, [], ◌∷◌, inl, inr, ap}
use Rattle.tus_steps.specs.Request.{Request}
use Rattle.tus_steps.specs.declared.reply.Reply.{Reply}
use Rattle.http_wire.specs.Conversation.{Course, Conversation, EndsWith, Goes, MessageTurn}
use Rattle.http_wire.specs.Exchange.{Exchange, first_part, followed, last_part}
use Rattle.http_wire.specs.NextMessage.{NextMessage, message, refused, cut_patch, cut_other, clean_end}
use Rattle.http_wire.specs.Turns.{Answered, Breaks, BreaksOff, Converses, FailsIn, FailsToContinue}
use Rattle.http_wire.specs.declared.conversation.Ended.{Ended}
use Rattle.http_wire.specs.declared.fault.WireFault.{WireFault}
use Rattle.http_wire.specs.declared.fault.WireFault.TheVariants.{Read, Write, Memory, Failed}
use Rattle.http_wire.specs.declared.request_limits.RequestLimits.{RequestLimits}

-- the exchange with what it stands for
abbrev pub carried : {A B : Type 0} → (A → B) → Exchange A → Exchange B
carried f x = record { input = x.input; text = x.text; before = f x.before; after = f x.after }

module _ {A B : Type 0} (f : A → B) (steps : A → Request → ℕ → Reply → A → Type 0) (others : B → Request → ℕ → Reply → B → Type 0)
    (carries : (a : A) (r : Request) (now : ℕ) (reply : Reply) (b : A) → steps a r now reply b → others (f a) r now reply (f b)) (limits : RequestLimits) where
  EndsWith-carried : (ends : Ended) (last : List ℕ) (x : Exchange A) (e : Ended) → EndsWith ends last x e → EndsWith ends last (carried f x) e
  EndsWith-carried ends last x e h = record { ended = h.ended; text = h.text; same = ap f h.same }

  Goes-carried : (close : Bool) (next : Course A) (then : Course B) (x : Exchange A) (e : Ended) → (next x e → then (carried f x) e) → Goes close next x e → Goes close then (carried f x) e
  Goes-carried true next then x e on h = EndsWith-carried _ _ x e h
  Goes-carried false next then x e on h = on h

  MessageTurn-carried : (now : ℕ) (next : Course A) (then : Course B) (next_message : NextMessage) (x : Exchange A) (e : Ended) → ((y : Exchange A) → next y e → then (carried f y) e) → MessageTurn steps now next next_message x e → MessageTurn others now then next_message (carried f x) e
  MessageTurn-carried now next then (message request framing waiting rest) x e on h =
      (h.0, f h.1, h.2, carries x.before request now h.0 h.1 h.3, h.4, Goes-carried framing.close next then (last_part x rest h.1 h.2) e (on (last_part x rest h.1 h.2)) h.5)
  MessageTurn-carried now next then (refused why framing) x e on h = EndsWith-carried _ _ x e h
  MessageTurn-carried now next then (cut_patch request framing waiting) x e on h = (h.0, carries x.before request now h.0 x.after h.1, h.2, h.3)
  MessageTurn-carried now next then (cut_other waiting) x e on h = EndsWith-carried _ _ x e h
  MessageTurn-carried now next then clean_end x e on h = EndsWith-carried _ _ x e h

  -- a whole conversation
  pub Conversation-carried : (moments : List ℕ) (x : Exchange A) (e : Ended) → Conversation steps limits moments x e → Conversation others limits moments (carried f x) e
  Conversation-carried [] x e h = EndsWith-carried _ _ x e h
  Conversation-carried (now ∷ moments) x e h =
      (h.0, h.1, MessageTurn-carried now (Conversation steps limits moments) (Conversation others limits moments) h.0 x e (λ y. Conversation-carried moments y e) h.2)

  -- the same, whatever follows the bytes that were read
  pub Converses-carried : (moments : List ℕ) (x : Exchange A) (e : Ended) → Converses steps limits moments x e → Converses others limits moments (carried f x) e
  Converses-carried moments x e h rest may = Conversation-carried moments (followed x rest) e (h rest may)

  Answered-carried : (now : ℕ) (x : Exchange A) (rest : List ℕ) → Answered steps limits now x rest → Answered others limits now (carried f x) rest
  Answered-carried now x rest a = record {
    request = a.request;
    framing = a.framing;
    waiting = a.waiting;
    reply = a.reply;
    next_message = a.next_message;
    stays = a.stays;
    step = carries x.before a.request now a.reply x.after a.step;
    wrote = a.wrote;
  }

  waits-carried : (waiting : Bool) (x : Exchange A) → FailsToContinue steps limits waiting x → FailsToContinue others limits waiting (carried f x)
  waits-carried waiting x h = (h.0, ap f h.1, h.2)

  FailsIn-carried : (now : ℕ) (next_message : NextMessage) (x : Exchange A) → FailsIn steps limits now next_message x → FailsIn others limits now next_message (carried f x)
  FailsIn-carried now (message request framing waiting rest) x (inl h) = inl (waits-carried waiting x h)
  FailsIn-carried now (message request framing waiting rest) x (inr h) = inr (h.0, h.1, carries x.before request now h.0 x.after h.2, h.3)
  FailsIn-carried now (refused why framing) x h = (ap f h.0, h.1)
  FailsIn-carried now (cut_patch request framing waiting) x h = waits-carried waiting x h
  FailsIn-carried now (cut_other waiting) x h = waits-carried waiting x h
  FailsIn-carried now clean_end x h = absurd h

  BreaksOff-carried : (moments : List ℕ) (x : Exchange A) → BreaksOff steps limits moments x → BreaksOff others limits moments (carried f x)
  BreaksOff-carried [] x h = absurd h
  BreaksOff-carried (now ∷ moments) x (inl h) = inl (h.0, h.1, FailsIn-carried now h.0 x h.2)
  BreaksOff-carried (now ∷ moments) x (inr h) =
      inr (h.0, h.1, h.2, f h.3, Answered-carried now (first_part x h.0 h.3) h.2 h.4, BreaksOff-carried moments (last_part x h.2 h.3 h.1) h.5, h.6)

  -- one that a fault broke off
  pub Breaks-carried : (moments : List ℕ) (x : Exchange A) (fault : WireFault) → Breaks steps limits moments x fault → Breaks others limits moments (carried f x) fault
  Breaks-carried moments x Read h = (h.0, h.1, Conversation-carried moments x h.0 h.2)
  Breaks-carried moments x Write h = BreaksOff-carried moments x h
  Breaks-carried moments x Memory h = (h.0, h.1, ap f h.2)
  Breaks-carried moments x Failed h = absurd h
