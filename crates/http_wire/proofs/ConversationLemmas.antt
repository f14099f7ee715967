-- Turns one after another, and what follows them.
use Rattle.std.proofs.Common.{◌≡◌, ℕ, ◌+◌, ◌<◌, IfErr, Option, Some, None, Result, Err, length, take, drop, get_or, take-append-drop, Bool, true, false, true≢false, List, [], ◌∷◌, ◌++◌, refl, sym, ap, ◌∙◌, subst, subst₂, inl, inr, append-nil, append_assoc}
use Rattle.std.proofs.lemmas.List.{drop_more}
use Rattle.std.specs.Io.KnownBytes.{Appends, Consumes}
use Rattle.tus_steps.specs.Request.{Request}
use Rattle.tus_steps.specs.declared.reply.Reply.{Reply}
use Rattle.http_wire.specs.Clock.{IsTimed, asked, unasked, Tells}
use Rattle.http_wire.specs.Conversation.{Conversation, Course, Goes, continue_text}
use Rattle.http_wire.specs.Exchange.{Exchange, first_part, last_part, followed}
use Rattle.http_wire.specs.NextMessage.{NextMessage, message, IsNextMessage}
use Rattle.http_wire.specs.ReplyText.{reply_text}
use Rattle.http_wire.specs.Turns.{Answered, Turns, FailsIn, BreaksOff, Breaks, BreaksTurn, Converses, IsReadWhen, LastTurn, MayRemain}
use Rattle.http_wire.specs.declared.conversation.Ended.{Ended}
use Rattle.http_wire.specs.declared.conversation.Ended.TheVariants as ended
use Rattle.http_wire.specs.declared.fault.WireFault.{WireFault}
use Rattle.http_wire.specs.declared.framing.Framing.{Framing}
use Rattle.http_wire.specs.declared.fault.WireFault.TheVariants.{Read, Write, Memory, Failed}
use Rattle.http_wire.proofs.NextMessageLemmas.{IsNextMessage-followed}
use Rattle.http_wire.specs.declared.request_limits.RequestLimits.{RequestLimits}

-- one moment more that a clock told
pub Tells-more : {C : Type 0} (tells : C → ℕ → C → Type 0) (before : C) (moments : List ℕ) (middle : C) (now : ℕ) (after : C) → Tells tells before moments middle → tells middle now after → Tells tells before (moments ++ now ∷ []) after
Tells-more tells before [] middle now after told more = (after, subst (λ c. tells c now after) told more, refl)
Tells-more tells before (first ∷ moments) middle now after told more =
    (told.0, told.1, Tells-more tells told.0 moments middle now after told.2 more)

-- the moments before one, that one, and those after it
pub moments_split : (moments : List ℕ) (i d : ℕ) → i < length moments → take i moments ++ get_or moments i d ∷ drop (i + 1) moments ≡ moments
moments_split moments i d h =
    ap (λ l. take i moments ++ l) (sym (drop_more moments i d h)) ∙ take-append-drop i moments

-- what holds at the moment that a clock which stands still told
pub timed_at : (m : ℕ) {after : ℕ} {failed : Type 0} {holds : ℕ → Type 0} → IsTimed (λ before now after. (now ≡ before) × (after ≡ before)) m after failed holds → holds m
timed_at m {after} {failed} {holds} (asked now told h) = subst holds told.0 h
timed_at m (unasked fails same h) = h m

-- what holds at a moment that a clock told, where nothing failed before it was asked
pub timed_asked : {C : Type 0} {tells : C → ℕ → C → Type 0} {before after : C} {failed : Type 0} {holds : ℕ → Type 0} → (failed → ⊥) → IsTimed tells before after failed holds → (now : ℕ) × tells before now after × holds now
timed_asked well (asked now told h) = (now, told, h)
timed_asked well (unasked fails same h) = absurd (well fails)

-- what follows from what holds at the moment
pub timed_weaker : {C : Type 0} {tells : C → ℕ → C → Type 0} {before after : C} {failed also : Type 0} {holds more : ℕ → Type 0} → (failed → also) → ((now : ℕ) → holds now → more now) → IsTimed tells before after failed holds → IsTimed tells before after also more
timed_weaker fails weaker (asked now told h) = asked now told (weaker now h)
timed_weaker fails weaker (unasked why same h) = unasked (fails why) same (λ now. weaker now (h now))

-- what holds of an error that was passed up
pub IfErr-from : {T : Type 0} (P : WireFault → Type 0) (r : Result T WireFault) (e e2 : WireFault) → r ≡ Err e → e ≡ e2 → P e2 → IfErr r P
IfErr-from P r e e2 is same h = subst (λ x. IfErr x P) (sym is) (subst P (sym same) h)

-- what follows the bytes that were read may follow them
MayRemain-read : (e : Ended) (rest : List ℕ) → IsReadWhen e (Some rest) → MayRemain e rest
MayRemain-read ended.Input rest h = h
MayRemain-read ended.Closed rest h = tt
MayRemain-read ended.Cut rest h = h
MayRemain-read ended.Moments rest h = tt

module _ {A : Type 0} (steps : A → Request → ℕ → Reply → A → Type 0) (limits : RequestLimits) where
  -- a reply after which the connection stays open
  Goes-stays : (close : Bool) (next : Course A) (x : Exchange A) (e : Ended) → close ≡ false → next x e → Goes close next x e
  Goes-stays true next x e is h = absurd (true≢false is)
  Goes-stays false next x e is h = h

  -- a reply after which it closes
  Goes-closes : (close : Bool) (next : Course A) (x : Exchange A) → close ≡ true → x.text ≡ [] → x.after ≡ x.before → Goes close next x ended.Closed
  Goes-closes true next x is none same = record { ended = refl; text = none; same = same }
  Goes-closes false next x is none same = absurd (true≢false (sym is))

  -- a message is answered, and the connection closes
  pub Conversation-closed : (now : ℕ) (moments : List ℕ) (x : Exchange A) (request : Request) (framing : Framing) (waiting : Bool) (rest : List ℕ) (reply : Reply)
      → IsNextMessage limits x.input (message request framing waiting rest) → steps x.before request now reply x.after → framing.close ≡ true
      → x.text ≡ continue_text waiting ++ reply_text reply now framing → Conversation steps limits (now ∷ moments) x ended.Closed
  Conversation-closed now moments x request framing waiting rest reply next_message step close wrote =
      let last : Exchange A = record { input = rest; text = []; before = x.after; after = x.after } in (
        message request framing waiting rest,
        next_message,
        (
          reply,
          x.after,
          [],
          step,
          wrote ∙ sym (append-nil (continue_text waiting ++ reply_text reply now framing)),
          Goes-closes framing.close (Conversation steps limits moments) last close refl refl,
        ),
      )

  -- whole turns, and then a conversation
  pub Turns-Conversation : (before after : List ℕ) (x : Exchange A) (middle later : List ℕ) (b : A) (e : Ended) → Turns steps limits before x middle
      → Conversation steps limits after (record { input = middle; text = later; before = x.after; after = b }) e
      → Conversation steps limits (before ++ after) (record x { text = x.text ++ later; after = b }) e
  Turns-Conversation [] after x middle later b e t c =
      rw t.1 (subst₂ (λ (i : List ℕ) (y : A). Conversation steps limits after (record { input = i; text = later; before = y; after = b }) e) t.0 t.2 c)
  Turns-Conversation (now ∷ before) after x middle later b e t c =
      let a = t.4 in
      let said = continue_text a.waiting ++ reply_text a.reply now a.framing in
      let rest = Turns-Conversation before after (last_part x t.2 t.3 t.1) middle later b e t.5 c in
      let whole : x.text ++ later ≡ said ++ (t.1 ++ later) = ap (λ l. l ++ later) (t.6 ∙ ap (λ l. l ++ t.1) a.wrote) ∙ append_assoc said t.1 later in (
        message a.request a.framing a.waiting t.2,
        a.next_message,
        (a.reply, t.3, t.1 ++ later, a.step, whole, Goes-stays a.framing.close (Conversation steps limits (before ++ after)) (record { input = t.2; text = t.1 ++ later; before = t.3; after = b }) e a.stays rest),
      )

  -- whole turns, and then more of them
  pub Turns-join : (before after : List ℕ) (x : Exchange A) (middle later : List ℕ) (b : A) (rest : List ℕ) → Turns steps limits before x middle
      → Turns steps limits after (record { input = middle; text = later; before = x.after; after = b }) rest
      → Turns steps limits (before ++ after) (record x { text = x.text ++ later; after = b }) rest
  Turns-join [] after x middle later b rest t u =
      rw t.1 (subst₂ (λ (i : List ℕ) (y : A). Turns steps limits after (record { input = i; text = later; before = y; after = b }) rest) t.0 t.2 u)
  Turns-join (now ∷ before) after x middle later b rest t u =
      (t.0, t.1 ++ later, t.2, t.3, t.4, Turns-join before after (last_part x t.2 t.3 t.1) middle later b rest t.5 u, ap (λ l. l ++ later) t.6 ∙ append_assoc t.0 t.1 later)

  -- a turn stays when more bytes follow
  pub Answered-followed : (now : ℕ) (more : List ℕ) (x : Exchange A) (rest : List ℕ) → Answered steps limits now x rest
      → Answered steps limits now (followed x more) (rest ++ more)
  Answered-followed now more x rest a = record {
    request = a.request;
    framing = a.framing;
    waiting = a.waiting;
    reply = a.reply;
    next_message = IsNextMessage-followed limits x.input more (message a.request a.framing a.waiting rest) refl a.next_message;
    stays = a.stays;
    step = a.step;
    wrote = a.wrote;
  }

  -- whole turns stay when more bytes follow
  pub Turns-followed : (moments more : List ℕ) (x : Exchange A) (rest : List ℕ) → Turns steps limits moments x rest
      → Turns steps limits moments (followed x more) (rest ++ more)
  Turns-followed [] more x rest t = (ap (λ l. l ++ more) t.0, t.1, t.2)
  Turns-followed (now ∷ moments) more x rest t = (
    t.0,
    t.1,
    t.2 ++ more,
    t.3,
    Answered-followed now more (first_part x t.0 t.3) t.2 t.4,
    Turns-followed moments more (last_part x t.2 t.3 t.1) rest t.5,
    t.6,
  )

  -- one turn more
  pub Turns-snoc : (before : List ℕ) (now : ℕ) (x : Exchange A) (middle text : List ℕ) (b : A) (rest : List ℕ) → Turns steps limits before x middle
      → Answered steps limits now (record { input = middle; text = text; before = x.after; after = b }) rest
      → Turns steps limits (before ++ now ∷ []) (record x { text = x.text ++ text; after = b }) rest
  Turns-snoc [] now x middle text b rest t a = (
    text,
    [],
    rest,
    b,
    subst₂ (λ (i : List ℕ) (y : A). Answered steps limits now (record { input = i; text = text; before = y; after = b }) rest) t.0 t.2 a,
    (refl, refl, refl),
    ap (λ l. l ++ text) t.1 ∙ sym (append-nil text),
  )
  Turns-snoc (m ∷ before) now x middle text b rest t a =
      (t.0, t.1 ++ text, t.2, t.3, t.4, Turns-snoc before now (last_part x t.2 t.3 t.1) middle text b rest t.5 a, ap (λ l. l ++ text) t.6 ∙ append_assoc t.0 t.1 text)

  -- whole turns, and then one that was broken off
  pub Turns-BreaksOff : (before after : List ℕ) (now : ℕ) (x : Exchange A) (middle part : List ℕ) (b : A) (f : NextMessage) → Turns steps limits before x middle → IsNextMessage limits middle f
      → FailsIn steps limits now f (record { input = middle; text = part; before = x.after; after = b })
      → BreaksOff steps limits (before ++ now ∷ after) (record x { text = x.text ++ part; after = b })
  Turns-BreaksOff [] after now x middle part b f t next_message fails =
      inl (
        f,
        subst (λ i. IsNextMessage limits i f) t.0 next_message,
        rw t.1 (subst₂ (λ (i : List ℕ) (y : A). FailsIn steps limits now f (record { input = i; text = part; before = y; after = b })) t.0 t.2 fails),
      )
  Turns-BreaksOff (m ∷ before) after now x middle part b f t next_message fails =
      inr (t.0, t.1 ++ part, t.2, t.3, t.4, Turns-BreaksOff before after now (last_part x t.2 t.3 t.1) middle part b f t.5 next_message fails, ap (λ l. l ++ part) t.6 ∙ append_assoc t.0 t.1 part)

  -- Some turns were taken, after which these bytes of the input are held. What follows the input changes
  -- nothing.
  abbrev pub Reached : List ℕ → Exchange A → List ℕ → Type 0
  Reached before x held = (rest : List ℕ) → Turns steps limits before (followed x rest) (held ++ rest)

  -- what goes on from some turns: bytes that were read after them, a text, and the state after it
  abbrev pub longer_by : Exchange A → List ℕ → List ℕ → A → Exchange A
  longer_by x more text b = record x { input = x.input ++ more; text = x.text ++ text; after = b }

  -- the exchange of the turn that follows some turns
  abbrev pub next_from : Exchange A → List ℕ → List ℕ → List ℕ → A → Exchange A
  next_from x held more text b = record { input = held ++ more; text = text; before = x.after; after = b }

  reached_further : (before : List ℕ) (x : Exchange A) (held more rest : List ℕ) → Reached before x held → Turns steps limits before (followed (followed x more) rest) (held ++ (more ++ rest))
  reached_further before x held more rest r =
      subst (λ (i : List ℕ). Turns steps limits before (record x { input = i }) (held ++ (more ++ rest))) (sym (append_assoc x.input more rest)) (r (more ++ rest))

  -- one turn more
  pub Reached-more : (before : List ℕ) (now : ℕ) (x : Exchange A) (held more text : List ℕ) (b : A) (held2 : List ℕ) → Reached before x held
      → ((rest : List ℕ) → Answered steps limits now (followed (next_from x held more text b) rest) (held2 ++ rest)) → Reached (before ++ now ∷ []) (longer_by x more text b) held2
  Reached-more before now x held more text b held2 r a rest =
      Turns-snoc before now (followed (followed x more) rest) (held ++ (more ++ rest)) text b (held2 ++ rest)
      (reached_further before x held more rest r)
      (subst (λ (i : List ℕ). Answered steps limits now (record (next_from x held more text b) { input = i }) (held2 ++ rest)) (append_assoc held more rest) (a rest))

  -- the turn with which the conversation ends
  pub Converses-last : (before after : List ℕ) (now : ℕ) (x : Exchange A) (held more text : List ℕ) (b : A) (e : Ended) → Reached before x held
      → ((rest : List ℕ) → MayRemain e rest → LastTurn steps limits now (followed (next_from x held more text b) rest) e) → Converses steps limits (before ++ now ∷ after) (longer_by x more text b) e
  Converses-last before after now x held more text b e r t rest may =
      Turns-Conversation before (now ∷ after) (followed (followed x more) rest) (held ++ (more ++ rest)) text b e
      (reached_further before x held more rest r)
      (subst (λ (i : List ℕ). Conversation steps limits (now ∷ after) (record (next_from x held more text b) { input = i }) e) (append_assoc held more rest) (t rest may after))

  -- no moment is left
  pub Converses-all : (moments : List ℕ) (x : Exchange A) (held : List ℕ) → Reached moments x held → Converses steps limits moments x ended.Moments
  Converses-all moments x held r rest may =
      subst₂ (λ (ms t : List ℕ). Conversation steps limits ms (record (followed x rest) { text = t }) ended.Moments) (append-nil moments) (append-nil x.text)
      (Turns-Conversation moments [] (followed x rest) (held ++ rest) [] x.after ended.Moments (r rest) (record { ended = refl; text = refl; same = refl }))

  -- the turn that a fault breaks off
  pub Breaks-after : (before after : List ℕ) (now : ℕ) (x : Exchange A) (held more text : List ℕ) (b : A) (e : WireFault) → Reached before x held
      → BreaksTurn steps limits now (next_from x held more text b) e → Breaks steps limits (before ++ now ∷ after) (longer_by x more text b) e
  Breaks-after before after now x held more text b Read r t =
      (t.0, t.1, Turns-Conversation before (now ∷ after) (followed x more) (held ++ more) text b t.0 (r more) (t.2 after))
  Breaks-after before after now x held more text b Write r t =
      Turns-BreaksOff before after now (followed x more) (held ++ more) text b t.0 (r more) t.1 t.2
  Breaks-after before after now x held more text b Memory r t = absurd t
  Breaks-after before after now x held more text b Failed r t = absurd t

  -- where the reader's bytes and the writer's are known, it is the conversation of all that the reader had
  pub Converses-known : (r0 r1 w0 w1 : Option (List ℕ)) (moments : List ℕ) (x : Exchange A) (e : Ended) → Consumes r0 r1 x.input → Appends w0 w1 x.text → Converses steps limits moments x e
      → IsReadWhen e r1 → (input before : List ℕ) → r0 ≡ Some input → w0 ≡ Some before
      → (text : List ℕ) × (w1 ≡ Some (before ++ text)) × Conversation steps limits moments (record x { input = input; text = text }) e
  Converses-known r0 r1 w0 w1 moments x e reads writes c end input before known kept =
      by r1 w1 (rw known at reads) (rw kept at writes) end
    where
      by : (r w : Option (List ℕ)) → Consumes (Some input) r x.input → Appends (Some before) w x.text → IsReadWhen e r
          → (text : List ℕ) × (w ≡ Some (before ++ text)) × Conversation steps limits moments (record x { input = input; text = text }) e
      by None w h k read = absurd h
      by (Some rest) None h k read = absurd k
      by (Some rest) (Some after) h k read =
          (x.text, ap (λ l. Some l) k, subst (λ (i : List ℕ). Conversation steps limits moments (record x { input = i }) e) (sym h) (c rest (MayRemain-read e rest read)))
