-- A conversation with what is like something else, as long as its steps keep it so, is one with that.
use Rattle.std.proofs.Common.{◌≡◌, ℕ, Bool, true, false, List, [], ◌∷◌, inl, inr, refl, sym, subst}
use Rattle.http_wire.specs.Conversation.{Course, Conversation, EndsWith, Goes, MessageTurn}
use Rattle.http_wire.specs.Exchange.{Exchange, last_part}
use Rattle.http_wire.specs.History.{Answering, Follows}
use Rattle.http_wire.specs.NextMessage.{NextMessage, message, refused, cut_patch, cut_other, clean_end}
use Rattle.http_wire.specs.Turns.{Breaks, BreaksOff, FailsIn}
use Rattle.http_wire.specs.declared.request_limits.RequestLimits.{RequestLimits}
use Rattle.http_wire.specs.declared.conversation.Ended.{Ended}
use Rattle.http_wire.specs.declared.fault.WireFault.{WireFault}
use Rattle.http_wire.specs.declared.fault.WireFault.TheVariants.{Read, Write, Memory, Failed}
use Rattle.tus_steps.specs.Request.{Request}
use Rattle.tus_steps.specs.declared.reply.Reply.{Reply}

-- the exchange between these states
abbrev pub between : {A B : Type 0} → Exchange A → B → B → Exchange B
between x p q = record { input = x.input; text = x.text; before = p; after = q }

module _ {A B : Type 0} (steps : A → Request → ℕ → Reply → A → Type 0) (others : B → Request → ℕ → Reply → B → Type 0) (Like : A → B → Type 0)
    (on : (a : A) (p : B) (r : Request) (now : ℕ) (reply : Reply) (b : A) → Like a p → steps a r now reply b → (q : B) × Like b q × others p r now reply q) (limits : RequestLimits) where
  stays : (a b : A) (p : B) → b ≡ a → Like a p → Like b p
  stays a b p same like = subst (λ (c : A). Like c p) (sym same) like

  -- answers that follow each other
  pub Follows-like : (a : A) (answered : List Answering) (b : A) (p : B) → Like a p → Follows steps a answered b → (q : B) × Like b q × Follows others p answered q
  Follows-like a [] b p like h = (p, stays a b p h like, refl)
  Follows-like a (q ∷ answered) b p like h =
      let made = on a p q.request q.now q.reply h.0 like h.1 in
      let later = Follows-like h.0 answered b made.0 made.1 h.2 in
      (later.0, later.1, (made.0, made.2, later.2))

  EndsWith-like : (ends : Ended) (last : List ℕ) (x : Exchange A) (e : Ended) (p : B) → Like x.before p → EndsWith ends last x e → (q : B) × Like x.after q × EndsWith ends last (between x p q) e
  EndsWith-like ends last x e p like h = (p, stays x.before x.after p h.same like, record { ended = h.ended; text = h.text; same = refl })

  Goes-like : (close : Bool) (next : Course A) (then : Course B) (x : Exchange A) (e : Ended) (p : B) → Like x.before p → (next x e → (q : B) × Like x.after q × then (between x p q) e)
      → Goes close next x e → (q : B) × Like x.after q × Goes close then (between x p q) e
  Goes-like true next then x e p like later h = EndsWith-like _ _ x e p like h
  Goes-like false next then x e p like later h = later h

  MessageTurn-like : (now : ℕ) (next : Course A) (then : Course B) (next_message : NextMessage) (x : Exchange A) (e : Ended) (p : B) → Like x.before p
      → ((y : Exchange A) (q : B) → Like y.before q → next y e → (last : B) × Like y.after last × then (between y q last) e)
      → MessageTurn steps now next next_message x e → (q : B) × Like x.after q × MessageTurn others now then next_message (between x p q) e
  MessageTurn-like now next then (message request framing waiting rest) x e p like later h =
      let made = on x.before p request now h.0 h.1 like h.3 in
      let y = last_part x rest h.1 h.2 in
      let goes = Goes-like framing.close next then y e made.0 made.1 (later y made.0 made.1) h.5 in
      (goes.0, goes.1, (h.0, made.0, h.2, made.2, h.4, goes.2))
  MessageTurn-like now next then (refused why framing) x e p like later h = EndsWith-like _ _ x e p like h
  MessageTurn-like now next then (cut_patch request framing waiting) x e p like later h =
      let made = on x.before p request now h.0 x.after like h.1 in
      (made.0, made.1, (h.0, made.2, h.2, h.3))
  MessageTurn-like now next then (cut_other waiting) x e p like later h = EndsWith-like _ _ x e p like h
  MessageTurn-like now next then clean_end x e p like later h = EndsWith-like _ _ x e p like h

  -- a whole conversation
  pub Conversation-like : (moments : List ℕ) (x : Exchange A) (e : Ended) (p : B) → Like x.before p → Conversation steps limits moments x e
      → (q : B) × Like x.after q × Conversation others limits moments (between x p q) e
  Conversation-like [] x e p like h = EndsWith-like _ _ x e p like h
  Conversation-like (now ∷ moments) x e p like h =
      let turn = MessageTurn-like now (Conversation steps limits moments) (Conversation others limits moments) h.0 x e p like (λ y q there rest. Conversation-like moments y e q there rest) h.2 in
      (turn.0, turn.1, (h.0, h.1, turn.2))

  FailsIn-like : (now : ℕ) (next_message : NextMessage) (x : Exchange A) (p : B) → Like x.before p → FailsIn steps limits now next_message x → (q : B) × Like x.after q × FailsIn others limits now next_message (between x p q)
  FailsIn-like now (message request framing waiting rest) x p like (inl h) = (p, stays x.before x.after p h.1 like, inl (h.0, refl, h.2))
  FailsIn-like now (message request framing waiting rest) x p like (inr h) =
      let made = on x.before p request now h.0 x.after like h.2 in
      (made.0, made.1, inr (h.0, h.1, made.2, h.3))
  FailsIn-like now (refused why framing) x p like h = (p, stays x.before x.after p h.0 like, (refl, h.1))
  FailsIn-like now (cut_patch request framing waiting) x p like h = (p, stays x.before x.after p h.1 like, (h.0, refl, h.2))
  FailsIn-like now (cut_other waiting) x p like h = (p, stays x.before x.after p h.1 like, (h.0, refl, h.2))
  FailsIn-like now clean_end x p like h = absurd h

  BreaksOff-like : (moments : List ℕ) (x : Exchange A) (p : B) → Like x.before p → BreaksOff steps limits moments x → (q : B) × Like x.after q × BreaksOff others limits moments (between x p q)
  BreaksOff-like [] x p like h = absurd h
  BreaksOff-like (now ∷ moments) x p like (inl h) =
      let fails = FailsIn-like now h.0 x p like h.2 in
      (fails.0, fails.1, inl (h.0, h.1, fails.2))
  BreaksOff-like (now ∷ moments) x p like (inr h) =
      let made = on x.before p h.4.request now h.4.reply h.3 like h.4.step in
      let later = BreaksOff-like moments (last_part x h.2 h.3 h.1) made.0 made.1 h.5 in (
        later.0,
        later.1,
        inr (
          h.0,
          h.1,
          h.2,
          made.0,
          record { request = h.4.request; framing = h.4.framing; waiting = h.4.waiting; reply = h.4.reply; next_message = h.4.next_message; stays = h.4.stays; step = made.2; wrote = h.4.wrote },
          later.2,
          h.6,
        ),
      )

  -- one that a fault broke off
  pub Breaks-like : (moments : List ℕ) (x : Exchange A) (fault : WireFault) (p : B) → Like x.before p → Breaks steps limits moments x fault
      → (q : B) × Like x.after q × Breaks others limits moments (between x p q) fault
  Breaks-like moments x Read p like h =
      let whole = Conversation-like moments x h.0 p like h.2 in
      (whole.0, whole.1, (h.0, h.1, whole.2))
  Breaks-like moments x Write p like h = BreaksOff-like moments x p like h
  Breaks-like moments x Memory p like h = (p, stays x.before x.after p h.2 like, (h.0, h.1, refl))
  Breaks-like moments x Failed p like h = absurd h
