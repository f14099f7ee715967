-- Turns of a connection, one step after another.
use Rattle.std.proofs.Common.{◌≡◌, ◌≢◌, ℕ, List, [], ◌∷◌, ◌++◌, Option, Some, None, Result, Ok, Err, IfOk, OnErr, length, take, ◌<◌, ◌≤◌, ◌+◌, ◌-◌, arith, inl, inr, refl, sym, ap₂, ◌∙◌, subst, subst₂, append-nil, append_assoc, length-append}
use Rattle.std.proofs.lemmas.List.{map-append}
use Rattle.std.specs.Io.KnownBytes.{Appends, Consumes, Keeps}
use Rattle.tus_steps.specs.Request.{Request}
use Rattle.tus_steps.specs.declared.reply.Reply.{Reply}
use Rattle.http_wire.specs.Clock.{Tells}
use Rattle.http_wire.specs.ConnectionCalls.{Sends, Takes}
use Rattle.http_wire.specs.OnConnection.{OnConnection, body_in}
use Rattle.http_wire.specs.History.{Answering, Follows, HasHistory, History, IsAnsweredAt, answer_moments, gave, noted_before, nothing_yet, took}
use Rattle.http_wire.specs.declared.read.pieces.PiecedBody.{PiecedBody}
use Rattle.http_wire.proofs.AheadLemmas.{Appends-more, Appends-none, Consumes-from_keeps, Consumes-more, Consumes-none}
use Rattle.connection_turns.specs.Turn.{AreAmong, AreTimed, Around, CarriesOn, OnTurn, Passes, SendsOn, and_then, on_turn}
use Rattle.connection_turns.specs.declared.turn.Step.{Step}
use Rattle.connection_turns.specs.declared.turn.Step.TheVariants as step
use Rattle.connection_turns.specs.inside.Steps.{answer_step, messages_of}

-- how many messages are left after a step, which answers one only where one is left
pub left-after : (most left : ℕ) (s : Step) → left ≤ most → (s ≡ step.Answered → 0 < left) → (most - left) + messages_of s ≡ most - (left - messages_of s)
left-after most left (step.Read n) le some = omega (arith, le)
left-after most left (step.Sent n) le some = omega (arith, le)
left-after most left step.Again le some = omega (arith, le)
left-after most left step.Answered le some = omega (arith, le, some refl)
left-after most left step.Took le some = omega (arith, le)
left-after most left (step.Stops outcome) le some = omega (arith, le)

-- a step that is no answer answers none
pub none-answered : (s : Step) → s ≢ step.Answered → messages_of s ≡ 0
none-answered (step.Read n) h = refl
none-answered (step.Sent n) h = refl
none-answered step.Again h = refl
none-answered step.Answered h = absurd (h refl)
none-answered step.Took h = refl
none-answered (step.Stops outcome) h = refl

-- nothing passed
pub and_then-none : (p : History) → and_then p nothing_yet ≡ p
and_then-none p = rw (append-nil p.taken, append-nil p.handed, append-nil p.moments, append-nil p.all_moments, append-nil p.answered) refl

and_then-took : (p : History) (got : List ℕ) → and_then p (record nothing_yet { taken = got }) ≡ took p got
and_then-took p got = rw (append-nil p.handed, append-nil p.moments, append-nil p.all_moments, append-nil p.answered) refl

and_then-gave : (p : History) (given : List ℕ) → and_then p (record nothing_yet { handed = given }) ≡ gave p given
and_then-gave p given = rw (append-nil p.taken, append-nil p.moments, append-nil p.all_moments, append-nil p.answered) refl

-- what an answer adds, by the body that is under way in pieces behind it
abbrev answered-by : Option PiecedBody → ℕ → List Answering → History
answered-by None now answered = record nothing_yet { moments = now ∷ []; all_moments = now ∷ []; answered = answered }
answered-by (Some b) now answered = record nothing_yet { all_moments = now ∷ []; answered = answered }

and_then-noted : (p : History) (body : Option PiecedBody) (now : ℕ) (answered : List Answering) → and_then p (answered-by body now answered) ≡ noted_before body p now answered
and_then-noted p None now answered = rw (append-nil p.taken, append-nil p.handed) refl
and_then-noted p (Some b) now answered = rw (append-nil p.taken, append-nil p.handed, append-nil p.moments) refl

and_then-more : (p first next : History) → and_then (and_then p first) next ≡ and_then p (and_then first next)
and_then-more p first next =
    rw (append_assoc p.taken first.taken next.taken, append_assoc p.handed first.handed next.handed, append_assoc p.moments first.moments next.moments, append_assoc p.all_moments first.all_moments next.all_moments, append_assoc p.answered first.answered next.answered) refl

Tells-then : {K : Type 0} (tells : K → ℕ → K → Type 0) (a : K) (moments : List ℕ) (b : K) (later : List ℕ) (c : K) → Tells tells a moments b → Tells tells b later c → Tells tells a (moments ++ later) c
Tells-then tells a [] b later c first next = subst (λ k. Tells tells k later c) first next
Tells-then tells a (now ∷ moments) b later c first next = (first.0, first.1, Tells-then tells first.0 moments b later c first.2 next)

-- what a read does to a history, whether it gave bytes or an error
pub History-read : {E : Type 0} (read : Result ℕ E) (u v : Option (List ℕ)) (old new : OnConnection) → IfOk read (λ n. (got : List ℕ) × (length got ≡ n) × Consumes u v got × Takes got old new)
    → OnErr read (Keeps u v × (new ≡ record old { read_buffer = record old.read_buffer { lent = [] } })) → OnErr read ((p : History) → HasHistory p old → HasHistory p new)
    → (p : History) → HasHistory p old → (got : List ℕ) × Consumes u v got × HasHistory (took p got) new
History-read (Ok n) u v old new takes none kept p h = (takes.0, takes.2, takes.3.history p h)
History-read (Err e) u v old new takes none kept p h =
    ([], Consumes-from_keeps u v none.0, subst (λ l. HasHistory (record p { taken = l }) new) (sym (append-nil p.taken)) (kept p h))

-- what a write does to a history
pub History-written : {E : Type 0} (written : Result ℕ E) (v w : Option (List ℕ)) (old new : OnConnection)
    → IfOk written (λ n. (n ≤ length old.write_buffer.pending) × Sends n old new × Appends v w (take n old.write_buffer.pending)) → OnErr written (Appends v w [] × (new ≡ old))
    → (p : History) → HasHistory p old → (given : List ℕ) × Appends v w given × HasHistory (gave p given) new
History-written (Ok n) v w old new sends none p h = (take n old.write_buffer.pending, sends.2, sends.1.history p h)
History-written (Err e) v w old new sends none p h =
    ([], none.0, subst (λ l. HasHistory (record p { handed = l }) new) (sym (append-nil p.handed)) (subst (HasHistory p) (sym none.1) h))

-- nothing was sent
pub SendsOn-none : (c : OnConnection) (w : Option (List ℕ)) → SendsOn c c w w
SendsOn-none c w = λ p h. ([], Appends-none w, subst (λ l. HasHistory (record p { handed = l }) c) (sym (append-nil p.handed)) h)

-- some was sent, and then more
pub SendsOn-then : (a b c : OnConnection) (u v w : Option (List ℕ)) → SendsOn a b u v → SendsOn b c v w → SendsOn a c u w
SendsOn-then a b c u v w first next = λ p h.
    let f = first p h in
    let s = next (gave p f.0) f.2 in (
      f.0 ++ s.0,
      Appends-more u v w f.0 s.0 f.1 s.1,
      subst (λ l. HasHistory (record p { handed = l }) c) (append_assoc p.handed f.0 s.0) s.2,
    )

-- moments that are among others are among these and more
among-later : (moments earlier others : List ℕ) → AreAmong moments others → AreAmong moments (earlier ++ others)
among-later [] earlier others h = tt
among-later (m ∷ moments) [] others h = h
among-later (m ∷ moments) (t ∷ earlier) others h = inr (among-later (m ∷ moments) earlier others h)

among-then : (a b c d : List ℕ) → AreAmong a b → AreAmong c d → AreAmong (a ++ c) (b ++ d)
among-then [] b c d h k = among-later c b d k
among-then (m ∷ a) [] c d h k = absurd h
among-then (m ∷ a) (t ∷ b) c d (inl h) k = inl (h.0, among-then a b c d h.1 k)
among-then (m ∷ a) (t ∷ b) c d (inr h) k = inr (among-then (m ∷ a) b c d h k)

pub AreTimed-none : (piece : Option ℕ) → AreTimed piece [] []
AreTimed-none None = refl
AreTimed-none (Some n) = tt

AreTimed-then : (piece : Option ℕ) (a b c d : List ℕ) → AreTimed piece a b → AreTimed piece c d → AreTimed piece (a ++ c) (b ++ d)
AreTimed-then None a b c d h k = ap₂ (λ x y. x ++ y) h k
AreTimed-then (Some n) a b c d h k = among-then a b c d h k

-- an answer is timed, and that to a piece is no message's
AreTimed-answered : (piece : Option ℕ) (body : Option PiecedBody) (now : ℕ) (answered : List Answering) → (piece ≡ None → body ≡ None) → AreTimed piece (answered-by body now answered).moments (answered-by body now answered).all_moments
AreTimed-answered None None now answered gathers = refl
AreTimed-answered None (Some b) now answered gathers = absurd (clash (gathers refl))
  where
    clash : Some b ≡ None → ⊥
    clash e = absurd cc
AreTimed-answered (Some n) None now answered gathers = inl (refl, tt)
AreTimed-answered (Some n) (Some b) now answered gathers = tt

-- what else it adds
taken-none : (body : Option PiecedBody) (now : ℕ) (answered : List Answering) → (answered-by body now answered).taken ≡ []
taken-none None now answered = refl
taken-none (Some b) now answered = refl

handed-none : (body : Option PiecedBody) (now : ℕ) (answered : List Answering) → (answered-by body now answered).handed ≡ []
handed-none None now answered = refl
handed-none (Some b) now answered = refl

told-one : (body : Option PiecedBody) (now : ℕ) (answered : List Answering) → (answered-by body now answered).all_moments ≡ now ∷ []
told-one None now answered = refl
told-one (Some b) now answered = refl

answered-all : (body : Option PiecedBody) (now : ℕ) (answered : List Answering) → (answered-by body now answered).answered ≡ answered
answered-all None now answered = refl
answered-all (Some b) now answered = refl

-- an answer's moment is the one that it adds
answered-among : (now : ℕ) (answered : List Answering) → IsAnsweredAt now answered → AreAmong (answer_moments answered) (now ∷ [])
answered-among now [] h = tt
answered-among now (q ∷ answered) h = inl (h.0, subst (λ (l : List Answering). AreAmong (answer_moments l) []) (sym h.1) tt)

count-answered : (body : Option PiecedBody) (now : ℕ) (answered : List Answering) → length (answered-by body now answered).moments ≡ messages_of (answer_step body)
count-answered None now answered = refl
count-answered (Some b) now answered = refl

module _ {A : Type 0} (steps : A → Request → ℕ → Reply → A → Type 0) where
  Follows-then : (a : A) (answered : List Answering) (b : A) (later : List Answering) (c : A) → Follows steps a answered b → Follows steps b later c → Follows steps a (answered ++ later) c
  Follows-then a [] b later c first next = subst (λ x. Follows steps x later c) first next
  Follows-then a (q ∷ answered) b later c first next = (first.0, first.1, Follows-then first.0 answered b later c first.2 next)

module _ {A K : Type 0} (steps : A → Request → ℕ → Reply → A → Type 0) (tells : K → ℕ → K → Type 0) (piece : Option ℕ) where
  -- what passed with pieces of one size passed with those of the same
  pub Passes-same : (size : Option ℕ) (count : ℕ) (old new : Around A K) (more : History) → size ≡ piece → Passes steps tells size count old new more → Passes steps tells piece count old new more
  Passes-same size count old new more same h = subst (λ s. Passes steps tells s count old new more) same h

  -- a connection is carried on where its histories stay
  pub CarriesOn-same : (old new : OnConnection) (a : A) (k : K) (u w : Option (List ℕ)) → ((p : History) → HasHistory p old → HasHistory p new) → CarriesOn steps tells piece 0 (on_turn old a k u w) (on_turn new a k u w)
  CarriesOn-same old new a k u w kept = λ p h. (
    nothing_yet,
    record { taken = Consumes-none u; handed = Appends-none w; told = refl; timed = AreTimed-none piece; counted = refl; noted = tt; answered = refl },
    subst (λ q. HasHistory q new) (sym (and_then-none p)) (kept p h),
  )

  -- by nothing
  pub CarriesOn-none : (n : ℕ) (c : OnConnection) (a : A) (k : K) (u w : Option (List ℕ)) → n ≡ 0 → CarriesOn steps tells piece n (on_turn c a k u w) (on_turn c a k u w)
  CarriesOn-none n c a k u w none = λ p h. (
    nothing_yet,
    record { taken = Consumes-none u; handed = Appends-none w; told = refl; timed = AreTimed-none piece; counted = sym none; noted = tt; answered = refl },
    subst (λ q. HasHistory q c) (sym (and_then-none p)) h,
  )

  -- by bytes that came
  pub CarriesOn-took : (n : ℕ) (old new : OnConnection) (a : A) (k : K) (u v w : Option (List ℕ)) → ((p : History) → HasHistory p old → (got : List ℕ) × Consumes u v got × HasHistory (took p got) new)
      → n ≡ 0 → CarriesOn steps tells piece n (on_turn old a k u w) (on_turn new a k v w)
  CarriesOn-took n old new a k u v w takes none = λ p h.
      let t = takes p h in (
        record nothing_yet { taken = t.0 },
        record { taken = t.1; handed = Appends-none w; told = refl; timed = AreTimed-none piece; counted = sym none; noted = tt; answered = refl },
        subst (λ q. HasHistory q new) (sym (and_then-took p t.0)) t.2,
      )

  -- by bytes that were sent
  pub CarriesOn-gave : (n : ℕ) (old new : OnConnection) (a : A) (k : K) (u v w : Option (List ℕ)) → ((p : History) → HasHistory p old → (given : List ℕ) × Appends v w given × HasHistory (gave p given) new)
      → n ≡ 0 → CarriesOn steps tells piece n (on_turn old a k u v) (on_turn new a k u w)
  CarriesOn-gave n old new a k u v w gives none = λ p h.
      let t = gives p h in (
        record nothing_yet { handed = t.0 },
        record { taken = Consumes-none u; handed = t.1; told = refl; timed = AreTimed-none piece; counted = sym none; noted = tt; answered = refl },
        subst (λ q. HasHistory q new) (sym (and_then-gave p t.0)) t.2,
      )

  -- by an answer
  pub CarriesOn-answered : (n : ℕ) (old new : OnConnection) (a b : A) (k l : K) (u w : Option (List ℕ)) (now : ℕ) → tells k now l
      → ((p : History) → HasHistory p old → (answered : List Answering) × Follows steps a answered b × IsAnsweredAt now answered × HasHistory (noted_before (body_in new.phase) p now answered) new)
      → (piece ≡ None → body_in new.phase ≡ None) → n ≡ messages_of (answer_step (body_in new.phase)) → CarriesOn steps tells piece n (on_turn old a k u w) (on_turn new b l u w)
  CarriesOn-answered n old new a b k l u w now told answers gathers count = λ p h.
      let t = answers p h in
      let body = body_in new.phase in (
        answered-by body now t.0,
        record {
          taken = subst (Consumes u u) (sym (taken-none body now t.0)) (Consumes-none u);
          handed = subst (Appends w w) (sym (handed-none body now t.0)) (Appends-none w);
          told = subst (λ ms. Tells tells k ms l) (sym (told-one body now t.0)) (l, told, refl);
          timed = AreTimed-answered piece body now t.0 gathers;
          counted = count-answered body now t.0 ∙ sym count;
          noted = subst₂ (λ answered moments. AreAmong (answer_moments answered) moments) (sym (answered-all body now t.0)) (sym (told-one body now t.0)) (answered-among now t.0 t.2);
          answered = subst (λ q. Follows steps a q b) (sym (answered-all body now t.0)) t.1;
        },
        subst (λ q. HasHistory q new) (sym (and_then-noted p body now t.0)) t.3,
      )

  -- by one turn and another
  pub CarriesOn-then : (m n l : ℕ) (a b c : OnTurn A K) → m + n ≡ l → CarriesOn steps tells piece m a b → (size : Option ℕ) → size ≡ piece → CarriesOn steps tells size n b c → CarriesOn steps tells piece l a c
  CarriesOn-then m n l a b c sum first size same next = λ p h.
      let f = first p h in
      let s = subst (λ s. CarriesOn steps tells s n b c) same next (and_then p f.0) f.2 in (
        and_then f.0 s.0,
        record {
          taken = Consumes-more a.around.unread b.around.unread c.around.unread f.0.taken s.0.taken f.1.taken s.1.taken;
          handed = Appends-more a.around.written b.around.written c.around.written f.0.handed s.0.handed f.1.handed s.1.handed;
          counted = length-append f.0.moments s.0.moments ∙ ap₂ (λ x y. x + y) f.1.counted s.1.counted ∙ sum;
          told = Tells-then tells a.around.clock f.0.all_moments b.around.clock s.0.all_moments c.around.clock f.1.told s.1.told;
          timed = AreTimed-then piece f.0.moments f.0.all_moments s.0.moments s.0.all_moments f.1.timed s.1.timed;
          noted = subst (λ l. AreAmong l (f.0.all_moments ++ s.0.all_moments)) (sym (map-append (λ (q : Answering). q.now) f.0.answered s.0.answered))
              (among-then (answer_moments f.0.answered) f.0.all_moments (answer_moments s.0.answered) s.0.all_moments f.1.noted s.1.noted);
          answered = Follows-then steps a.around.answerer f.0.answered b.around.answerer s.0.answered c.around.answerer f.1.answered s.1.answered;
        },
        subst (λ q. HasHistory q c.connection) (and_then-more p f.0 s.0) s.2,
      )
