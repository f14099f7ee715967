-- A conversation whose bodies come in pieces, by what passed on its connection.
use Rattle.std.proofs.Common.{◌≡◌, ◌≢◌, ◌≤◌, ◌-◌, ◌⊎◌, arith, ℕ, Bool, true, false, true≢false, List, [], ◌∷◌, ◌++◌, Option, Some, None, Result, Ok, Err, IfOk, IfErr, OnErr, OnOk, length, inl, inr, refl, ◌∙◌, sym, subst, ap}
use Rattle.std.specs.Prelude.{IfSome, MatchBool, is_some, min}
use Rattle.std.specs.Io.KnownBytes.{Appends, Consumes, Keeps}
use Rattle.std.proofs.lemmas.List.{append-nil}
use Rattle.std.proofs.lemmas.List.Elements.{All-cons, All-head, All-nil, All-tail}
use Rattle.http_wire.specs.Clock.{Tells}
use Rattle.http_wire.specs.ConnectionCalls.{Takes}
use Rattle.http_wire.specs.History.{Answering, Follows, HasHistory, History, answer_moments, nothing_yet}
use Rattle.http_wire.specs.Fault.{NamesOrMemory, NamesStream}
use Rattle.http_wire.specs.Incoming.{FramedRequest}
use Rattle.http_wire.specs.NextMessage.{closing}
use Rattle.http_wire.specs.OnConnection.{OnConnection, owed_in, phase_after, turn_end, unless_pending, wanted, wanted_in}
use Rattle.http_wire.specs.PiecedBody.{piece_in}
use Rattle.http_wire.specs.ReplyText.{reply_text}
use Rattle.http_wire.specs.inside.PieceAnswer.{Accepts, AnswersOwed, AnswersPiece, EndsBody}
use Rattle.http_wire.specs.inside.Sending.{OnOutbox}
use Rattle.http_wire.specs.inside.TurnFinish.{ended_after}
use Rattle.http_wire.specs.declared.request_limits.RequestLimits.{RequestLimits}
use Rattle.http_wire.specs.declared.connection.Wants.{Wants}
use Rattle.http_wire.specs.declared.connection.Wants.TheVariants as want
use Rattle.http_wire.specs.declared.connection.Wants.TheVariants.{Answer, Nothing}
use Rattle.http_wire.specs.declared.conversation.Ended.{Ended}
use Rattle.http_wire.specs.declared.fault.WireFault.{WireFault}
use Rattle.http_wire.specs.declared.fault.WireFault.TheVariants as wire
use Rattle.http_wire.specs.declared.phase.Phase.{Phase}
use Rattle.http_wire.specs.declared.phase.Phase.TheVariants.{Looking, Waiting, Owing, Piece, Over, Stopped}
use Rattle.http_wire.specs.declared.read.pieces.Part.{Part}
use Rattle.http_wire.specs.declared.read.pieces.Part.TheVariants as part
use Rattle.http_wire.specs.declared.read.pieces.PiecedBody.{PiecedBody}
use Rattle.connection_turns.specs.Turn.{AreAmong, CarriesOn, on_turn}
use Rattle.connection_turns.specs.inside.Steps.{answer_step, messages_of}
use Rattle.tus_steps.specs.InPieces.{is_taken}
use Rattle.tus_steps.specs.Request.{Request}
use Rattle.tus_steps.specs.declared.reply.Reply.{Reply}
use Rattle.tus_program.specs.TalkInPieces.{AreAt, IsOver, TalksInPieces, limits_in_pieces}

-- where no byte was read, all are left
pub Keeps-consumed : (old new : Option (List ℕ)) (got : List ℕ) → Consumes old new got → got ≡ [] → Keeps old new
Keeps-consumed None new got h none = tt
Keeps-consumed (Some xs) None got h none = h
Keeps-consumed (Some xs) (Some ys) got h none = cc

-- where no byte was written, those before it stay
pub Keeps-appended : (old new : Option (List ℕ)) (text : List ℕ) → Appends old new text → text ≡ [] → Keeps old new
Keeps-appended None new text h none = tt
Keeps-appended (Some xs) None text h none = h
Keeps-appended (Some xs) (Some ys) text h none = h ∙ (ap (λ t. xs ++ t) none ∙ append-nil xs)

-- an answer behind which a body is under way in pieces ends no message, and any other ends one
pub none-by : (body : Option PiecedBody) → is_some body ≡ true → 0 ≡ messages_of (answer_step body)
none-by None h = absurd (true≢false (sym h))
none-by (Some b) h = refl

pub one-by : (body : Option PiecedBody) → is_some body ≡ false → 1 ≡ messages_of (answer_step body)
one-by None h = refl
one-by (Some b) h = absurd (true≢false h)

-- a read leaves the size of pieces
pub piece-read : {E : Type 0} (read : Result ℕ E) (u v : Option (List ℕ)) (old new : OnConnection) → IfOk read (λ n. (got : List ℕ) × (length got ≡ n) × Consumes u v got × Takes got old new)
    → OnErr read (Keeps u v × (new ≡ record old { read_buffer = record old.read_buffer { lent = [] } })) → new.piece ≡ old.piece
piece-read (Ok n) u v old new takes none = takes.3.piece
piece-read (Err e) u v old new takes none = ap (λ (c : OnConnection). c.piece) none.1

-- what waits for nothing but to be sent wants no answer
unless-sent : (pending : List ℕ) (w : Wants) → w ≢ Answer → unless_pending pending w ≢ Answer
unless-sent [] w h = h
unless-sent (b ∷ rest) w h = λ e. absurd cc

after-turn : (o : OnOutbox) (r : Result (Option Ended) WireFault) → wanted_in o (phase_after r) ≢ Answer
after-turn o (Ok None) = λ e. absurd cc
after-turn o (Ok (Some e)) = unless-sent o.pending Nothing (λ e. absurd cc)
after-turn o (Err f) = unless-sent o.pending Nothing (λ e. absurd cc)

-- once a piece was answered, no answer is wanted
after-piece : (now : ℕ) (b : PiecedBody) (which : Part) (reply : Reply) (old new : OnConnection) → AnswersPiece now b which reply old.read_buffer new.read_buffer old.write_buffer.pending new.write_buffer.pending new.phase
    → wanted new ≢ Answer
after-piece now b part.Middle reply old new h = go (is_taken (piece_in b old.read_buffer.lent).request reply) h
  where
    go : (taken : Bool)
        → MatchBool taken (Accepts b reply old.read_buffer new.read_buffer old.write_buffer.pending new.write_buffer.pending new.phase)
        (EndsBody (reply_text reply now (closing b.layout.framing)) (Stopped None) old.read_buffer new.read_buffer old.write_buffer.pending new.write_buffer.pending new.phase)
        → wanted new ≢ Answer
    go true h = subst (λ (q : Phase FramedRequest). wanted_in new.write_buffer q ≢ Answer) (sym h.phase) (λ e. absurd cc)
    go false h = subst (λ (q : Phase FramedRequest). wanted_in new.write_buffer q ≢ Answer) (sym h.phase) (unless-sent new.write_buffer.pending Nothing (λ e. absurd cc))
after-piece now b part.Last reply old new h =
    subst (λ (q : Phase FramedRequest). wanted_in new.write_buffer q ≢ Answer) (sym h.phase) (after-turn new.write_buffer (Ok (ended_after b.layout.framing.close)))
after-piece now b (part.Cut why) reply old new h =
    subst (λ (q : Phase FramedRequest). wanted_in new.write_buffer q ≢ Answer) (sym h.phase) (unless-sent new.write_buffer.pending Nothing (λ e. absurd cc))

-- once what came in was answered, no answer is wanted
pub after-answer : {A : Type 0} (steps : A → Request → ℕ → Reply → A → Type 0) (now : ℕ) (before after : A) (old new : OnConnection) → wanted old ≡ Answer → AnswersOwed steps now before after old new old.phase
    → IfSome (owed_in old.phase) (λ i. new.phase ≡ phase_after (turn_end i)) → wanted new ≢ Answer
after-answer {A} steps now before after old new wants pieces phase = go old.phase refl wants pieces phase
  where
    go : (q : Phase FramedRequest) → old.phase ≡ q → wanted_in old.write_buffer q ≡ Answer → AnswersOwed steps now before after old new q → IfSome (owed_in q) (λ i. new.phase ≡ phase_after (turn_end i)) → wanted new ≢ Answer
    go (Looking s) is wants pieces phase = absurd cc
    go (Waiting s) is wants pieces phase = absurd (unless-sent old.write_buffer.pending want.Read (λ e. absurd cc) wants)
    go (Owing i) is wants pieces phase = subst (λ (q : Phase FramedRequest). wanted_in new.write_buffer q ≢ Answer) (sym phase) (after-turn new.write_buffer (turn_end i))
    go (Piece b which) is wants pieces phase = after-piece now b which pieces.0 old new pieces.2
    go (Over r) is wants pieces phase = absurd (unless-sent old.write_buffer.pending Nothing (λ e. absurd cc) wants)
    go (Stopped r) is wants pieces phase = absurd (unless-sent old.write_buffer.pending Nothing (λ e. absurd cc) wants)

-- a clock that stands still
abbrev pub still : ℕ → ℕ → ℕ → Type 0
still before now after = (now ≡ before) × (after ≡ before)

-- it tells one moment
told-at : (now : ℕ) (moments : List ℕ) (last : ℕ) → Tells still now moments last → AreAt now moments
told-at now [] last h = All-nil (λ (m : ℕ). m ≡ now)
told-at now (m ∷ moments) last h = All-cons (λ (m : ℕ). m ≡ now) m moments h.1.0 (told-at now moments last (subst (λ (k : ℕ). Tells still k moments last) h.1.1 h.2))

-- what is among moments that are all one is that one
among-at : (now : ℕ) (moments others : List ℕ) → AreAmong moments others → AreAt now others → AreAt now moments
among-at now [] others h all = All-nil (λ (m : ℕ). m ≡ now)
among-at now (m ∷ moments) [] h all = absurd h
among-at now (m ∷ moments) (t ∷ others) (inl h) all =
    All-cons (λ (m : ℕ). m ≡ now) m moments (h.0 ∙ All-head (λ (m : ℕ). m ≡ now) t others all) (among-at now moments others h.1 (All-tail (λ (m : ℕ). m ≡ now) t others all))
among-at now (m ∷ moments) (t ∷ others) (inr h) all = among-at now (m ∷ moments) others h (All-tail (λ (m : ℕ). m ≡ now) t others all)

module _ {A : Type 0} (steps : A → Request → ℕ → Reply → A → Type 0) (n now most : ℕ) (before after : A) (unread left written told : Option (List ℕ)) where
  -- what passed since a connection began, in pieces of this size
  pub talks-by : (old new : OnConnection) (last count : ℕ) → HasHistory nothing_yet old → old.piece ≡ Some n → new.piece ≡ old.piece → new.limits ≡ limits_in_pieces most → count ≤ 4096
      → CarriesOn steps still old.piece count (on_turn old before now unread written) (on_turn new after last left told)
      → (talks : TalksInPieces steps n now most before after unread left written told) × (talks.connection ≡ new) × (length talks.passed.moments ≡ count)
  talks-by old new last count begins sized same limits few carries =
      let h = subst (λ (size : Option ℕ). CarriesOn steps still size count (on_turn old before now unread written) (on_turn new after last left told)) sized carries nothing_yet begins in
      let all = told-at now h.0.all_moments last h.1.told in (
        record {
          connection = new;
          limits = limits;
          piece = same ∙ sized;
          passed = h.0;
          has = h.2;
          taken = h.1.taken;
          handed = h.1.handed;
          messages = among-at now h.0.moments h.0.all_moments h.1.timed all;
          noted = among-at now (answer_moments h.0.answered) h.0.all_moments h.1.noted all;
          all = all;
          few = subst (λ (k : ℕ). k ≤ 4096) (sym h.1.counted) few;
          answered = h.1.answered;
        },
        refl,
        h.1.counted,
      )

  -- the same once it is over
  pub over-by : (talks : TalksInPieces steps n now most before after unread left written told) (new : OnConnection) (count : ℕ) → talks.connection ≡ new → length talks.passed.moments ≡ count → new.write_buffer.pending ≡ []
      → (wanted new ≡ Nothing) ⊎ (count ≡ 4096) → IsOver talks.passed talks.connection
  over-by talks new count is counted sent ended = subst (IsOver talks.passed) (sym is) (record { sent = sent; ended = by ended })
    where
      by : (wanted new ≡ Nothing) ⊎ (count ≡ 4096) → (wanted new ≡ Nothing) ⊎ (length talks.passed.moments ≡ 4096)
      by (inl h) = inl h
      by (inr h) = inr (counted ∙ h)

module _ {A B : Type 0} (steps : A → Request → ℕ → Reply → A → Type 0) (others : B → Request → ℕ → Reply → B → Type 0) where
  -- answers that are steps of one thing are steps of what it stands for
  pub Follows-carried : (f : A → B) → ((a : A) (r : Request) (now : ℕ) (reply : Reply) (b : A) → steps a r now reply b → others (f a) r now reply (f b))
      → (a : A) (answered : List Answering) (b : A) → Follows steps a answered b → Follows others (f a) answered (f b)
  Follows-carried f carries a [] b h = ap f h
  Follows-carried f carries a (q ∷ answered) b h = (f h.0, carries a q.request q.now q.reply h.0 h.1, Follows-carried f carries h.0 answered b h.2)

  -- the same of all that passed
  abbrev pub talks-with : (n now most : ℕ) (before after : A) (p q : B) (unread left written told : Option (List ℕ)) (talks : TalksInPieces steps n now most before after unread left written told)
      → Follows others p talks.passed.answered q → TalksInPieces others n now most p q unread left written told
  talks-with n now most before after p q unread left written told talks answered = record {
    connection = talks.connection;
    limits = talks.limits;
    piece = talks.piece;
    passed = talks.passed;
    has = talks.has;
    taken = talks.taken;
    handed = talks.handed;
    messages = talks.messages;
    noted = talks.noted;
    all = talks.all;
    few = talks.few;
    answered = answered;
  }

-- the limits as they are made
pub limits-by : (size most other : ℕ) → size ≡ most → other ≡ min size 16777216 → (limits : RequestLimits) → limits ≡ record { plain = size; other = other; ranges = false } → limits ≡ limits_in_pieces most
limits-by size most other is least limits made = made ∙ rw (least, is) refl

-- where no message is left, all were had
pub all-had : {P : Type 0} (left : ℕ) → P ⊎ (left ≡ 0) → P ⊎ (4096 - left ≡ 4096)
all-had left (inl h) = inl h
all-had left (inr h) = inr (omega (arith, h))

-- what holds where there is a value, by two things that do
pub on_ok-both : {T E P Q S : Type 0} (r : Result T E) → OnOk r P → OnOk r Q → (P → Q → S) → OnOk r S
on_ok-both (Ok v) p q f = f p q
on_ok-both (Err e) p q f = tt

-- where there is an error, whatever holds of a value
pub on_ok-none : {T E : Type 0} (P : Type 0) (r : Result T E) (e : E) → r ≡ Err e → OnOk r P
on_ok-none {T} {E} P r e is = subst (λ (r : Result T E). OnOk r P) (sym is) (tt {0})

-- what holds of any error
pub if_err-any : {T E : Type 0} (r : Result T E) (P : E → Type 0) → ((e : E) → r ≡ Err e → P e) → IfErr r P
if_err-any (Ok v) P f = tt
if_err-any (Err e) P f = f e refl

-- a fault of a stream names that, and is no want of memory
pub names-or : (reader writer : Bool) (f : WireFault) → NamesStream reader writer f → NamesOrMemory reader writer f
names-or reader writer wire.Read h = h
names-or reader writer wire.Write h = h
names-or reader writer wire.Memory h = absurd h
names-or reader writer wire.Failed h = absurd h
