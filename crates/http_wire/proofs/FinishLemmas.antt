-- The second half of a turn: what is pending for each thing that came in, and what was sent of it.
use Rattle.std.proofs.Common.{◌≡◌, ◌≢◌, ℕ, Bool, true, false, List, [], ◌∷◌, ◌++◌, length, ◌≤◌, Option, Some, None, IfSome, inl, ap, Result, Ok, Err, IfOk, IfErr, take, refl, sym, subst, ◌∙◌, append-nil}
use Rattle.std.specs.Io.KnownBytes.{Appends}
use Rattle.tus_steps.specs.InPieces.{MayComeInPieces}
use Rattle.tus_steps.specs.Request.{Request}
use Rattle.tus_steps.specs.declared.reply.Reply.{Reply}
use Rattle.http_wire.specs.inside.Ahead.{Ahead}
use Rattle.http_wire.specs.Asking.{BreaksAnswer, BreaksAsked, asked}
use Rattle.http_wire.specs.Exchange.{Exchange}
use Rattle.http_wire.specs.Fault.{NamesStream}
use Rattle.http_wire.specs.Incoming.{FramedRequest, is_cut_by_fault}
use Rattle.http_wire.specs.Layout.{framed_at, request_at}
use Rattle.http_wire.specs.OnConnection.{ended_in, phase_after, turn_end}
use Rattle.http_wire.specs.History.{Answering, NotesBy}
use Rattle.http_wire.specs.ReadOnWire.{ComesIn}
use Rattle.http_wire.specs.ReplyText.{reply_text, refusal_text}
use Rattle.http_wire.specs.inside.TurnFinish.{AnswersTurn, FinishesTurn, ended_after, turn_cut}
use Rattle.http_wire.specs.Turns.{LastTurn}
use Rattle.http_wire.specs.Writes.{Writes}
use Rattle.http_wire.specs.declared.conversation.Ended.{Ended}
use Rattle.http_wire.specs.declared.conversation.Ended.TheVariants as ended
use Rattle.http_wire.specs.declared.fault.WireFault.{WireFault}
use Rattle.http_wire.specs.declared.fault.WireFault.TheVariants as fault
use Rattle.http_wire.specs.declared.framing.Framing.{Framing}
use Rattle.http_wire.specs.declared.phase.Phase.{Phase}
use Rattle.http_wire.specs.declared.read.layout.Layout.{Layout}
use Rattle.http_wire.specs.declared.incoming.Cut.{Cut}
use Rattle.http_wire.specs.declared.incoming.Incoming.{Incoming}
use Rattle.http_wire.specs.declared.incoming.Incoming.TheVariants as incoming
use Rattle.http_wire.specs.declared.incoming.Cut.TheVariants as cut
use Rattle.http_wire.specs.declared.refusal.WireRefusal.{WireRefusal}
use Rattle.http_wire.proofs.AheadLemmas.{OnOk-always}
use Rattle.http_wire.proofs.TurnLemmas.{MessageTurn-stays, MessageTurn-closed, MessageTurn-refused, MessageTurn-cut_patch, MessageTurn-cut_other, MessageTurn-end, LastTurn-alone, BreaksAnswer-reply, BreaksAnswer-refusal}
use Rattle.http_wire.specs.declared.request_limits.RequestLimits.{RequestLimits}

-- what holds of a value under a premise that does not name it
pub IfOk-when : {T E P : Type 0} (Q : T → Type 0) (r : Result T E) → (P → IfOk r Q) → IfOk r (λ x. P → Q x)
IfOk-when Q (Ok x) h = h
IfOk-when Q (Err e) h = tt

-- what follows from what holds of an error
pub IfErr-more : {T E : Type 0} (P Q : E → Type 0) (r : Result T E) → ((e : E) → P e → Q e) → IfErr r P → IfErr r Q
IfErr-more P Q (Ok x) more h = tt
IfErr-more P Q (Err e) more h = more e h

-- what is not true is false
not_true : (b : Bool) → (b ≡ true → ⊥) → b ≡ false
not_true true h = absurd (h refl)
not_true false h = refl

-- a conversation is over after a turn where that ended it
ended-after : (turn : Result (Option Ended) WireFault) → ended_in (phase_after turn) ≡ turn
ended-after (Ok None) = refl
ended-after (Ok (Some e)) = refl
ended-after (Err fault) = refl

module _ {A : Type 0} (steps : A → Request → ℕ → Reply → A → Type 0) where
  -- nothing is written after what was written while the message came in
  quiet : (limits : RequestLimits) (now : ℕ) (x : Exchange A) (e : Ended) → LastTurn steps limits now x e → LastTurn steps limits now (record x { text = x.text ++ [] }) e
  quiet limits now x e h =
      subst (λ (t : List ℕ). LastTurn steps limits now (record x { text = t }) e) (sym (append-nil x.text)) h

  -- a message was answered, and its reply is pending
  pub Answers-message : (now : ℕ) (a : Ahead) (p : Layout) (reply : Reply) (before after : A) (close : Bool) → p.framing.close ≡ close → steps before (request_at p a.lent) now reply after
      → AnswersTurn steps now a (incoming.Message (framed_at a.lent p)) (reply_text reply now p.framing) before after (Ok (ended_after close))
  Answers-message now a p reply before after true is step = record {
    sent = λ limits input said f rest _. MessageTurn-closed steps limits now (record { input = input; text = said; before = before; after = after }) a p reply f step is rest;
    unsent = λ limits n input said f _. BreaksAnswer-reply steps limits now n (record { input = input; text = said; before = before; after = after }) a p reply f step;
    silent = λ cut. absurd cc;
    end = λ remaining sees tells. tt;
    ends = tt;
    reader = refl;
    fault = tt;
  }
  Answers-message now a p reply before after false is step = record {
    sent = λ limits input said f. MessageTurn-stays steps limits now (record { input = input; text = said; before = before; after = after }) a p reply f step is;
    unsent = λ limits n input said f _. BreaksAnswer-reply steps limits now n (record { input = input; text = said; before = before; after = after }) a p reply f step;
    silent = λ cut. absurd cc;
    end = λ remaining sees tells. sees;
    ends = tt;
    reader = refl;
    fault = tt;
  }

  -- a request was refused, and the refusal is pending
  pub Answers-refused : (now : ℕ) (a : Ahead) (why : WireRefusal) (framing : Framing) (same : A)
      → AnswersTurn steps now a (incoming.Refused why framing) (refusal_text why now framing) same same (Ok (Some ended.Closed))
  Answers-refused now a why framing same = record {
    sent = λ limits input said f rest _. MessageTurn-refused steps limits now (record { input = input; text = said; before = same; after = same }) a why framing f refl rest;
    unsent = λ limits n input said f _. BreaksAnswer-refusal steps limits now n (record { input = input; text = said; before = same; after = same }) a why framing f refl;
    silent = λ cut. absurd cc;
    end = λ remaining sees tells. tt;
    ends = tt;
    reader = refl;
    fault = tt;
  }

  -- a PATCH was cut, and was applied with the bytes that came
  pub Answers-cut_patch : (now : ℕ) (a : Ahead) (p : Layout) (why : Cut) (reply : Reply) (before after : A) → steps before (request_at p a.lent) now reply after
      → AnswersTurn steps now a (incoming.CutPatch (framed_at a.lent p) why) [] before after (turn_cut why)
  Answers-cut_patch now a p cut.Ended reply before after step = record {
    sent = λ limits input said f rest none. LastTurn-alone steps limits now (record { input = input; text = said ++ []; before = before; after = after }) rest ended.Cut
        (quiet limits now (record { input = input; text = said; before = before; after = after }) ended.Cut
        (MessageTurn-cut_patch steps limits now (record { input = input; text = said; before = before; after = after }) a p cut.Ended reply f step)) none;
    unsent = λ limits n input said f some. absurd (some refl);
    silent = λ _. refl;
    end = λ remaining sees tells. sees tells;
    ends = tt;
    reader = refl;
    fault = tt;
  }
  Answers-cut_patch now a p cut.Fault reply before after step = record {
    sent = λ limits input said f. record {
      request = request_at p a.lent;
      framing = p.framing;
      waiting = f.0;
      reply = reply;
      next_message = f.2;
      step = step;
      wrote = append-nil said ∙ f.1;
    };
    unsent = λ limits n input said f some. absurd (some refl);
    silent = λ _. refl;
    end = λ remaining sees tells. tt;
    ends = tt;
    reader = tt;
    fault = (refl, refl);
  }

  -- another message was cut
  pub Answers-cut_other : (now : ℕ) (a : Ahead) (same : A) → AnswersTurn steps now a incoming.CutOther [] same same (Ok (Some ended.Cut))
  Answers-cut_other now a same = record {
    sent = λ limits input said f rest none. LastTurn-alone steps limits now (record { input = input; text = said ++ []; before = same; after = same }) rest ended.Cut
        (quiet limits now (record { input = input; text = said; before = same; after = same }) ended.Cut
        (MessageTurn-cut_other steps limits now (record { input = input; text = said; before = same; after = same }) a f refl)) none;
    unsent = λ limits n input said f some. absurd (some refl);
    silent = λ _. refl;
    end = λ remaining sees tells. sees tells;
    ends = tt;
    reader = refl;
    fault = tt;
  }

  -- the input ended between two messages
  pub Answers-end : (now : ℕ) (a : Ahead) (same : A) → AnswersTurn steps now a incoming.End [] same same (Ok (Some ended.Input))
  Answers-end now a same = record {
    sent = λ limits input said f rest none. LastTurn-alone steps limits now (record { input = input; text = said ++ []; before = same; after = same }) rest ended.Input
        (quiet limits now (record { input = input; text = said; before = same; after = same }) ended.Input
        (MessageTurn-end steps limits now (record { input = input; text = said; before = same; after = same }) f refl)) none;
    unsent = λ limits n input said f some. absurd (some refl);
    silent = λ _. refl;
    end = λ remaining sees tells. sees tells;
    ends = tt;
    reader = refl;
    fault = tt;
  }

  -- what was pending is sent
  pub Finishes-sent : (now : ℕ) (a : Ahead) (incoming : Incoming FramedRequest) (pending : List ℕ) (w0 w1 : Option (List ℕ)) (failed : Bool) (before after : A) (r : Result (Option Ended) WireFault)
      → AnswersTurn steps now a incoming pending before after r → Appends w0 w1 pending → failed ≡ false → FinishesTurn steps now a incoming w0 w1 failed before after r
  Finishes-sent now a incoming pending w0 w1 failed before after r h wrote alive = record {
    turn = λ limits input said f. (pending, wrote, h.sent limits input said f);
    end = h.end;
    ends = h.ends;
    reader = h.reader;
    writer = OnOk-always r alive;
    fault = rw alive h.fault;
  }

  -- a write failed after a prefix of what was pending
  pub Finishes-unsent : {T : Type 0} (now : ℕ) (a : Ahead) (incoming : Incoming FramedRequest) (pending : List ℕ) (w0 w1 : Option (List ℕ)) (failed : Bool) (before after : A)
      (answered r : Result (Option Ended) WireFault) (e given : WireFault) → r ≡ Err e → e ≡ given → AnswersTurn steps now a incoming pending before after answered
      → Writes {T = T} w0 w1 failed pending (Err given) → pending ≢ [] → FinishesTurn steps now a incoming w0 w1 failed before after r
  Finishes-unsent now a incoming pending w0 w1 failed before after answered r e given is same h w some =
      let write : e ≡ fault.Write = same ∙ w.fault in
      subst (FinishesTurn steps now a incoming w0 w1 failed before after) (sym is) (record {
        turn = λ limits input said f. (
          take w.prefix.0 pending,
          w.prefix.2,
          subst (BreaksAnswer steps limits now (record { input = input; text = said ++ take w.prefix.0 pending; before = before; after = after })) (sym write)
              (h.unsent limits w.prefix.0 input said f some),
        );
        end = λ remaining sees tells. tt;
        ends = tt;
        reader = tt;
        writer = tt;
        fault = subst (NamesStream (is_cut_by_fault incoming) failed) (sym write) (not_true (is_cut_by_fault incoming) (λ cut. some (h.silent cut)), w.failed);
      })

  -- what came in was answered, and the answer was sent
  pub Finishes-answered : (now : ℕ) (a : Ahead) (o : Option (Incoming FramedRequest)) (old pending : List ℕ) (w0 w1 : Option (List ℕ)) (failed : Bool) (before after : A) (p : Phase FramedRequest) (r : Result (Option Ended) WireFault)
      → IfSome o (λ i. (put : List ℕ) × (pending ≡ old ++ put) × AnswersTurn steps now a i put before after (turn_end i)) → IfSome o (λ i. p ≡ phase_after (turn_end i)) → old ≡ []
      → Appends w0 w1 pending → failed ≡ false → r ≡ ended_in p → IfSome o (λ i. FinishesTurn steps now a i w0 w1 failed before after r)
  Finishes-answered now a None old pending w0 w1 failed before after p r answers follows none wrote alive is = tt
  Finishes-answered now a (Some i) old pending w0 w1 failed before after p r answers follows none wrote alive is =
      let put : pending ≡ answers.0 = answers.1 ∙ ap (λ l. l ++ answers.0) none in
      subst (FinishesTurn steps now a i w0 w1 failed before after) (sym (is ∙ ap ended_in follows ∙ ended-after (turn_end i)))
      (Finishes-sent now a i answers.0 w0 w1 failed before after (turn_end i) answers.2 (subst (Appends w0 w1) put wrote) alive)

  -- or its write failed
  pub Finishes-broken : {T : Type 0} (now : ℕ) (a : Ahead) (o : Option (Incoming FramedRequest)) (old pending : List ℕ) (w0 w1 : Option (List ℕ)) (failed : Bool) (before after : A)
      (r : Result (Option Ended) WireFault) (e given : WireFault) → r ≡ Err e → e ≡ given → IfSome o (λ i. (put : List ℕ) × (pending ≡ old ++ put) × AnswersTurn steps now a i put before after (turn_end i)) → old ≡ []
      → Writes {T = T} w0 w1 failed pending (Err given) → pending ≢ [] → IfSome o (λ i. FinishesTurn steps now a i w0 w1 failed before after r)
  Finishes-broken now a None old pending w0 w1 failed before after r e given is same answers none w some = tt
  Finishes-broken {T} now a (Some i) old pending w0 w1 failed before after r e given is same answers none w some =
      let put : pending ≡ answers.0 = answers.1 ∙ ap (λ l. l ++ answers.0) none in
      Finishes-unsent now a i answers.0 w0 w1 failed before after (turn_end i) r e given is same answers.2
      (subst (λ l. Writes {T = T} w0 w1 failed l (Err given)) put w) (subst (λ l. l ≢ []) put some)

  -- where a turn was finished by a fault, its message had come, and its moment was told before that
  pub Finishes-asked : {C : Type 0} (tells : C → ℕ → C → Type 0) (before after : C) (limits : RequestLimits) (now : ℕ) (a : Ahead) (incoming : Incoming FramedRequest) (input said : List ℕ) (w0 w1 : Option (List ℕ)) (failed : Bool) (first last : A)
      (r : Result (Option Ended) WireFault) → tells before now after → ComesIn limits (record { input = input; text = said }) a.held incoming → FinishesTurn steps now a incoming w0 w1 failed first last r
      → IfErr r (λ f. (text : List ℕ) × Appends w0 w1 text × BreaksAsked steps tells limits before after (record { input = input; text = said ++ text; before = first; after = last }) f)
  Finishes-asked tells before after limits now a incoming input said w0 w1 failed first last (Ok e) told f h = tt
  Finishes-asked tells before after limits now a incoming input said w0 w1 failed first last (Err fault) told f h =
      let t = h.turn limits input said f in
      (t.0, t.1, asked now told t.2)

-- where nothing was answered, the notes are as they were
pub Answers-unnoted : (steps : List Answering → Request → ℕ → Reply → List Answering → Type 0) (now : ℕ) (a : Ahead) (i : Incoming FramedRequest) (put : List ℕ) (before : List Answering) (r : Result (Option Ended) WireFault)
    → AnswersTurn steps now a i put before before r → AnswersTurn steps now a i put before (before ++ []) r
Answers-unnoted steps now a i put before r h = subst (λ after. AnswersTurn steps now a i put before after r) (sym (append-nil before)) h

-- a request that is answered as one is noted, whether bodies are taken in pieces or not
pub NotesBy-one : (piece : Option ℕ) (before : List Answering) (q : Answering) → IfSome piece (λ n. MayComeInPieces q.request → length q.request.body ≤ n) → NotesBy piece before q.request q.now q.reply (before ++ q ∷ [])
NotesBy-one None before q few = refl
NotesBy-one (Some n) before q few = inl (few, refl)
