-- What each call of a connection adds to its history.
use Rattle.std.proofs.Common.{◌≡◌, ℕ, List, [], ◌∷◌, ◌++◌, ◌≤◌, ◌<◌, length, take, drop, Option, Some, None, Result, Ok, Err, refl, ap, sym, subst, subst₂, ◌∙◌, append-nil, append_assoc}
use Rattle.std.proofs.lemmas.List.Elements.{All-nil}
use Rattle.std.proofs.lemmas.List.{take-append-drop, nil_from_length}
use Rattle.http_wire.specs.ConnectionCalls.{BreaksTo}
use Rattle.http_wire.specs.Exchange.{Exchange, followed}
use Rattle.http_wire.specs.Incoming.{FramedRequest}
use Rattle.http_wire.specs.Layout.{request_at}
use Rattle.http_wire.specs.OnConnection.{IsFresh, OnConnection, StandsIn, body_in, owed_in, phase_after, turn_end}
use Rattle.tus_steps.specs.InPieces.{behind}
use Rattle.http_wire.specs.History.{Answering, AreGiven, HasHistory, NotesBy, History, StandsAfter, StandsAt, Stood, StoodInPieces, behind_pieces, gave, noted, noted_before, nothing_yet, told, told_with, took}
use Rattle.http_wire.specs.PiecedBody.{IsTaken}
use Rattle.http_wire.specs.Turns.{Answered, Breaks, BreaksTurn, Converses, LastTurn, MayRemain, TakesTurn, Turns}
use Rattle.http_wire.specs.declared.conversation.Ended.{Ended}
use Rattle.http_wire.specs.declared.fault.WireFault.{WireFault}
use Rattle.http_wire.specs.declared.incoming.Incoming.{Incoming}
use Rattle.http_wire.specs.declared.phase.Phase.{Phase}
use Rattle.http_wire.specs.declared.phase.Phase.TheVariants.{Looking, Waiting, Owing, Piece, Over, Stopped}
use Rattle.http_wire.specs.declared.read.pieces.PiecedBody.{PiecedBody}
use Rattle.http_wire.specs.declared.read.stage.Stage.{Stage}
use Rattle.http_wire.specs.declared.read.stage.Stage.TheVariants.{Head, Body, Pieces}
use Rattle.http_wire.specs.inside.Ahead.{Ahead}
use Rattle.http_wire.specs.inside.HeadSearch.{Searching, search_start}
use Rattle.http_wire.specs.inside.Sending.{OnOutbox}
use Rattle.http_wire.specs.inside.Standing.{Fits, KeepsBody, Standing, StaysBody, pieced}
use Rattle.http_wire.specs.inside.TurnFinish.{AnswersTurn}
use Rattle.http_wire.proofs.ConversationLemmas.{Breaks-after, Converses-last, Reached-more}
use Rattle.http_wire.proofs.FindLemmas.{Searching-start}
use Rattle.http_wire.proofs.PieceLemmas.{IsTaken-kept, IsTaken-more, IsTaken-same, none-given}
use Rattle.http_wire.proofs.StageLemmas.{Standing-kept, Standing-more}
use Rattle.http_wire.proofs.TurnLemmas.{BreaksTurn-next_message, TakesTurn-finished}
use Rattle.http_wire.specs.declared.request_limits.RequestLimits.{RequestLimits}

-- what stood is its history, while the conversation is not over and no body is taken in pieces
pub Stood-history : (p : History) (c : OnConnection) → body_in c.phase ≡ None → Stood p c → HasHistory p c
Stood-history p c none h = go c.phase none (λ stands. h) h.stands
  where
    at_stage : (s : Stage) → pieced s ≡ None → Stood p c → StandsAt p c s
    at_stage (Head s) none h = h
    at_stage (Body l) none h = h
    at_stage (Pieces b) none h = absurd cc

    go : (q : Phase FramedRequest) → body_in q ≡ None → (StandsIn c.limits h.start h.said c.read_buffer q → Stood p c) → StandsIn c.limits h.start h.said c.read_buffer q → StandsAfter p c q
    go (Looking s) none stood stands = at_stage s none (stood stands)
    go (Waiting s) none stood stands = at_stage s none (stood stands)
    go (Owing i) none stood stands = stood stands
    go (Piece b part) none stood stands = absurd cc
    go (Over r) none stood stands = absurd stands
    go (Stopped r) none stood stands = absurd stands

-- a connection on which nothing was read, and nothing is to be sent, has no history
pub History-start : (c : OnConnection) → IsFresh c → HasHistory nothing_yet c
History-start c h = Stood-history nothing_yet c (ap body_in h.phase) (record {
  start = [];
  said = [];
  text = [];
  reached = λ rest. (refl, refl, refl);
  sent = ap (λ (o : OnOutbox). o.pending) h.write_buffer;
  stands = subst (StandsIn c.limits [] [] c.read_buffer) (sym h.phase) (refl, subst (λ held. Searching [] held search_start) (sym h.held) (Searching-start []));
})

-- a connection with the same limits that holds this, has come so far, and is to send this
abbrev pub onto : OnConnection → Ahead → Phase FramedRequest → OnOutbox → OnConnection
onto c a q o = record c { read_buffer = a; phase = q; write_buffer = o }

-- the bytes that are here of a message whose body is taken in pieces
abbrev here_in : Ahead → Phase FramedRequest → List ℕ
here_in a (Looking s) = a.held
here_in a (Waiting s) = a.held
here_in a (Owing i) = []
here_in a (Piece b part) = a.lent ++ a.held
here_in a (Over r) = []
here_in a (Stopped r) = []

-- its history, by what stands of it
pieces-history : (p : History) (c : OnConnection) (b : PiecedBody) → body_in c.phase ≡ Some b → StoodInPieces p c b (here_in c.read_buffer c.phase) → HasHistory p c
pieces-history p c b is h = go c.phase is h
  where
    at_stage : (s : Stage) → pieced s ≡ Some b → StoodInPieces p c b c.read_buffer.held → StandsAt p c s
    at_stage (Head s) is h = absurd cc
    at_stage (Body l) is h = absurd cc
    at_stage (Pieces d) is h =
        let same : b ≡ d = cc in
        subst (λ d. StoodInPieces p c d c.read_buffer.held) same h

    go : (q : Phase FramedRequest) → body_in q ≡ Some b → StoodInPieces p c b (here_in c.read_buffer q) → StandsAfter p c q
    go (Looking s) is h = at_stage s is h
    go (Waiting s) is h = at_stage s is h
    go (Owing i) is h = absurd cc
    go (Piece d part) is h =
        let same : b ≡ d = cc in
        subst (λ d. StoodInPieces p c d (c.read_buffer.lent ++ c.read_buffer.held)) same h
    go (Over r) is h = absurd cc
    go (Stopped r) is h = absurd cc

-- what stands of it, where a phase has a body that is taken in pieces
taken-in : (limits : RequestLimits) (bytes said : List ℕ) (a : Ahead) (q : Phase FramedRequest) (b : PiecedBody) → body_in q ≡ Some b → StandsIn limits bytes said a q → (gone : List ℕ) × IsTaken limits bytes said gone b (here_in a q)
taken-in limits bytes said a q b is stands = go q is stands
  where
    at_stage : (s : Stage) → pieced s ≡ Some b → Standing limits bytes said a s → (gone : List ℕ) × IsTaken limits bytes said gone b a.held
    at_stage (Head s) is h = absurd cc
    at_stage (Body l) is h = absurd cc
    at_stage (Pieces d) is h =
        let same : d ≡ b = cc in
        subst (λ d. (gone : List ℕ) × IsTaken limits bytes said gone d a.held) same h

    go : (q : Phase FramedRequest) → body_in q ≡ Some b → StandsIn limits bytes said a q → (gone : List ℕ) × IsTaken limits bytes said gone b (here_in a q)
    go (Looking s) is h = at_stage s is h
    go (Waiting s) is h = at_stage s is h
    go (Owing i) is h = absurd cc
    go (Piece d part) is h =
        let same : d ≡ b = cc in
        subst (λ d. (gone : List ℕ) × IsTaken limits bytes said gone d (a.lent ++ a.held)) same h
    go (Over r) is h = absurd cc
    go (Stopped r) is h = absurd cc

-- more came of a body that is taken in pieces, or was said meanwhile, and nothing more was taken
Stood-on : (p : History) (got put : List ℕ) (c new : OnConnection) (b : PiecedBody) (here there went : List ℕ) → new.limits ≡ c.limits → new.piece ≡ c.piece → new.write_buffer.pending ≡ c.write_buffer.pending ++ put
    → (h : StoodInPieces p c b here) → IsTaken c.limits (h.start ++ got) (h.said ++ put) went b there → StoodInPieces (took p got) new b there
Stood-on p got put c new b here there went size piece pending h k =
    let same = IsTaken-same c.limits h.start got h.said (h.said ++ put) h.gone went b here there h.taken k in
    record {
      start = h.start ++ got;
      said = h.said ++ put;
      text = h.text;
      gone = went;
      before = h.before;
      pieces = h.pieces;
      answered = h.answered;
      reached = λ rest. subst₂ (λ m s. Turns (NotesBy s) m p.moments (followed (told_with (took p got) h.text h.before) rest) ((h.start ++ got) ++ rest)) (sym size) (sym piece)
          (subst₂ (λ i left. Turns (NotesBy c.piece) c.limits p.moments (record (told_with p h.text h.before) { input = i }) left) (sym (append_assoc p.taken got rest)) (sym (append_assoc h.start got rest)) (h.reached (got ++ rest)));
      sent = ap (λ l. p.handed ++ l) pending ∙ sym (append_assoc p.handed c.write_buffer.pending put) ∙ ap (λ l. l ++ put) h.sent ∙ append_assoc h.text h.said put;
      taken = subst (λ m. IsTaken m (h.start ++ got) (h.said ++ put) went b there) (sym size) k;
      given = subst₂ (λ head gone. AreGiven (request_at b.layout head) b.layout.body_len 0 h.pieces gone) (sym same.1) (sym same.0) h.given;
      asks = subst (λ head. behind_pieces (request_at b.layout head) h.pieces ≡ behind b.created (request_at b.layout head)) (sym same.1) h.asks;
      sized = h.sized;
    }

-- nothing was taken in pieces of a body that begins
Stood-begins : (p : History) (put : List ℕ) (c new : OnConnection) (b : PiecedBody) (there went : List ℕ) → new.limits ≡ c.limits → new.piece ≡ c.piece → new.write_buffer.pending ≡ c.write_buffer.pending ++ put
    → b.given ≡ 0 → b.created ≡ None → (h : Stood p c) → IsTaken c.limits h.start (h.said ++ put) went b there → StoodInPieces p new b there
Stood-begins p put c new b there went size piece pending none fresh h k = record {
  start = h.start;
  said = h.said ++ put;
  text = h.text;
  gone = went;
  before = p.answered;
  pieces = [];
  answered = sym (append-nil p.answered);
  reached = λ rest. subst₂ (λ m s. Turns (NotesBy s) m p.moments (followed (told p h.text) rest) (h.start ++ rest)) (sym size) (sym piece) (h.reached rest);
  sent = ap (λ l. p.handed ++ l) pending ∙ sym (append_assoc p.handed c.write_buffer.pending put) ∙ ap (λ l. l ++ put) h.sent ∙ append_assoc h.text h.said put;
  taken = subst (λ m. IsTaken m h.start (h.said ++ put) went b there) (sym size) k;
  given = nil_from_length went (k.given ∙ none);
  asks = rw fresh refl;
  sized = All-nil (λ (q : Answering). b.piece ≤ length q.request.body);
}

-- a body of which nothing was taken is given up: it is as one that was gathered
Stood-given_up : (p : History) (c : OnConnection) (b : PiecedBody) (q : Phase FramedRequest) → c.phase ≡ q → b.given ≡ 0 → 0 < b.piece → (h : StoodInPieces p c b c.read_buffer.held) → StandsIn c.limits h.start h.said c.read_buffer q → Stood p c
Stood-given_up p c b q at none some h stands =
    let no_pieces : h.pieces ≡ [] = none-given (request_at b.layout (take b.layout.head_len c.read_buffer.held)) b.layout.body_len 0 b.piece h.pieces h.gone h.given h.sized some (h.taken.given ∙ none) in
    let answered : p.answered ≡ h.before = h.answered ∙ ap (λ l. h.before ++ l) no_pieces ∙ append-nil h.before in
    record {
      start = h.start;
      said = h.said;
      text = h.text;
      reached = λ rest. subst (λ before. Turns (NotesBy c.piece) c.limits p.moments (followed (told_with p h.text before) rest) (h.start ++ rest)) (sym answered) (h.reached rest);
      sent = h.sent;
      stands = subst (StandsIn c.limits h.start h.said c.read_buffer) (sym at) stands;
    }

-- nothing was taken
took-nothing : (p : History) (c : OnConnection) (b : PiecedBody) (here : List ℕ) → StoodInPieces (took p []) c b here → StoodInPieces p c b here
took-nothing p c b here h = subst (λ taken. StoodInPieces (record p { taken = taken }) c b here) (append-nil p.taken) h

Stood-looked : (p : History) (put : List ℕ) (c new : OnConnection) (b : PiecedBody) (here there went : List ℕ) → new.limits ≡ c.limits → new.piece ≡ c.piece → new.write_buffer.pending ≡ c.write_buffer.pending ++ put
    → (h : StoodInPieces p c b here) → IsTaken c.limits h.start (h.said ++ put) went b there → StoodInPieces p new b there
Stood-looked p put c new b here there went size piece pending h k =
    took-nothing p new b there (Stood-on p [] put c new b here there went size piece pending h (subst (λ i. IsTaken c.limits i (h.said ++ put) went b there) (sym (append-nil h.start)) k))

-- a look put some text
pub History-looked : (p : History) (c : OnConnection) (s : Stage) (a : Ahead) (q : Phase FramedRequest) (o : OnOutbox)
    → ((bytes said : List ℕ) → Standing c.limits bytes said c.read_buffer s → (put : List ℕ) × (o.pending ≡ c.write_buffer.pending ++ put) × StandsIn c.limits bytes (said ++ put) a q)
    → KeepsBody c.piece (pieced s) (body_in q) → StandsAt p (record c { phase = Looking s }) s → StandsAfter p (onto c a q o) q
History-looked p c s a q o looks keeps h = go s looks keeps h (body_in q) refl
  where
    old : Stage → OnConnection
    old s = record c { phase = Looking s }

    new : OnConnection
    new = onto c a q o

    begins : (s : Stage) → ((bytes said : List ℕ) → Standing c.limits bytes said c.read_buffer s → (put : List ℕ) × (o.pending ≡ c.write_buffer.pending ++ put) × StandsIn c.limits bytes (said ++ put) a q)
        → Stood p (record c { phase = Looking s }) → (body : Option PiecedBody) → body_in q ≡ body → KeepsBody c.piece None body → StandsAfter p (onto c a q o) q
    begins s looks h None is keeps =
        let put = looks h.start h.said h.stands in
        Stood-history p (onto c a q o) is (record {
          start = h.start;
          said = h.said ++ put.0;
          text = h.text;
          reached = h.reached;
          sent = ap (λ l. p.handed ++ l) put.1 ∙ sym (append_assoc p.handed c.write_buffer.pending put.0) ∙ ap (λ l. l ++ put.0) h.sent ∙ append_assoc h.text h.said put.0;
          stands = put.2;
        })
    begins s looks h (Some b) is keeps =
        let put = looks h.start h.said h.stands in
        let taken = taken-in c.limits h.start (h.said ++ put.0) a q b is put.2 in
        pieces-history p (onto c a q o) b is (Stood-begins p put.0 (record c { phase = Looking s }) (onto c a q o) b (here_in a q) taken.0 refl refl put.1 keeps.0 keeps.1 h taken.1)

    go : (s : Stage) → ((bytes said : List ℕ) → Standing c.limits bytes said c.read_buffer s → (put : List ℕ) × (o.pending ≡ c.write_buffer.pending ++ put) × StandsIn c.limits bytes (said ++ put) a q)
        → KeepsBody c.piece (pieced s) (body_in q) → StandsAt p (record c { phase = Looking s }) s → (body : Option PiecedBody) → body_in q ≡ body → StandsAfter p (onto c a q o) q
    go (Head t) looks keeps h body is = begins (Head t) looks h body is (subst (KeepsBody c.piece None) is keeps)
    go (Body l) looks keeps h body is = begins (Body l) looks h body is (subst (KeepsBody c.piece None) is keeps)
    go (Pieces b) looks keeps h None is =
        let given_up = subst (KeepsBody c.piece (Some b)) is keeps in
        begins (Pieces b) looks (Stood-given_up p (record c { phase = Looking (Pieces b) }) b (Looking (Pieces b)) refl given_up.0 given_up.1 h (h.gone, h.taken)) None is tt
    go (Pieces b) looks keeps h (Some d) is =
        let same : d ≡ b = subst (KeepsBody c.piece (Some b)) is keeps in
        let put = looks h.start h.said (h.gone, h.taken) in
        let body = is ∙ ap Some same in
        let taken = taken-in c.limits h.start (h.said ++ put.0) a q b body put.2 in
        pieces-history p (onto c a q o) b body (Stood-looked p put.0 (record c { phase = Looking (Pieces b) }) (onto c a q o) b c.read_buffer.held (here_in a q) taken.0 refl refl put.1 h taken.1)

-- some bytes were taken
pub History-took : (p : History) (got : List ℕ) (c : OnConnection) (s : Stage) (a : Ahead) → a.held ≡ c.read_buffer.held ++ got → Fits c.read_buffer s
    → StandsAt p (record c { phase = Waiting s }) s → StandsAt (took p got) (record c { phase = Looking s; read_buffer = a }) s
History-took p got c s a held fits h = go s fits h
  where
    stood : (s : Stage) → Fits c.read_buffer s → Stood p (record c { phase = Waiting s }) → Stood (took p got) (record c { phase = Looking s; read_buffer = a })
    stood s fits h = record {
      start = h.start ++ got;
      said = h.said;
      text = h.text;
      reached = λ rest. subst₂ (λ i left. Turns (NotesBy c.piece) c.limits p.moments (record (told p h.text) { input = i }) left) (sym (append_assoc p.taken got rest)) (sym (append_assoc h.start got rest)) (h.reached (got ++ rest));
      sent = h.sent;
      stands = Standing-more c.limits [] h.start got h.said c.read_buffer a s h.stands fits held;
    }

    go : (s : Stage) → Fits c.read_buffer s → StandsAt p (record c { phase = Waiting s }) s → StandsAt (took p got) (record c { phase = Looking s; read_buffer = a }) s
    go (Head t) fits h = stood (Head t) fits h
    go (Body l) fits h = stood (Body l) fits h
    go (Pieces b) fits h =
        Stood-on p got [] (record c { phase = Waiting (Pieces b) }) (record c { phase = Looking (Pieces b); read_buffer = a }) b c.read_buffer.held a.held h.gone refl refl (sym (append-nil c.write_buffer.pending)) h
        (subst (λ said. IsTaken c.limits (h.start ++ got) said h.gone b a.held) (sym (append-nil h.said)) (IsTaken-more c.limits h.start got h.said h.gone b c.read_buffer.held a.held h.taken held))

-- what is held is the same
pub History-kept : (p : History) (c : OnConnection) (s : Stage) (a : Ahead) → a.held ≡ c.read_buffer.held → StandsAt p (record c { phase = Waiting s }) s → StandsAt p (record c { phase = Waiting s; read_buffer = a }) s
History-kept p c s a held h = go s h
  where
    stood : (s : Stage) → Stood p (record c { phase = Waiting s }) → Stood p (record c { phase = Waiting s; read_buffer = a })
    stood s h = record { start = h.start; said = h.said; text = h.text; reached = h.reached; sent = h.sent; stands = Standing-kept c.limits h.start h.said c.read_buffer a s h.stands held }

    go : (s : Stage) → StandsAt p (record c { phase = Waiting s }) s → StandsAt p (record c { phase = Waiting s; read_buffer = a }) s
    go (Head t) h = stood (Head t) h
    go (Body l) h = stood (Body l) h
    go (Pieces b) h = record {
      start = h.start;
      said = h.said;
      text = h.text;
      gone = h.gone;
      before = h.before;
      pieces = h.pieces;
      answered = h.answered;
      reached = h.reached;
      sent = h.sent;
      taken = IsTaken-kept c.limits h.start h.said h.gone b c.read_buffer.held a.held h.taken held;
      given = subst (λ l. AreGiven (request_at b.layout (take b.layout.head_len l)) b.layout.body_len 0 h.pieces h.gone) (sym held) h.given;
      asks = subst (λ l. behind_pieces (request_at b.layout (take b.layout.head_len l)) h.pieces ≡ behind b.created (request_at b.layout (take b.layout.head_len l))) (sym held) h.asks;
      sized = h.sized;
    }

-- it looks again, at what is held
pub History-again : (p : History) (c : OnConnection) (s : Stage) (a : Ahead) → a.held ≡ c.read_buffer.held → StandsAt p (record c { phase = Waiting s }) s → StandsAt p (record c { phase = Looking s; read_buffer = a }) s
History-again p c s a held h = go s (History-kept p c s a held h)
  where
    stood : (s : Stage) → Stood p (record c { phase = Waiting s; read_buffer = a }) → Stood p (record c { phase = Looking s; read_buffer = a })
    stood s h = record { start = h.start; said = h.said; text = h.text; reached = h.reached; sent = h.sent; stands = h.stands }

    go : (s : Stage) → StandsAt p (record c { phase = Waiting s; read_buffer = a }) s → StandsAt p (record c { phase = Looking s; read_buffer = a }) s
    go (Head t) h = stood (Head t) h
    go (Body l) h = stood (Body l) h
    go (Pieces b) h = record { start = h.start; said = h.said; text = h.text; gone = h.gone; before = h.before; pieces = h.pieces; answered = h.answered; reached = h.reached; sent = h.sent; taken = h.taken; given = h.given; asks = h.asks; sized = h.sized }

-- a read failed
pub History-broke : (p : History) (c : OnConnection) (s : Stage) (a : Ahead) (q : Phase FramedRequest) → ((bytes said : List ℕ) → Standing c.limits bytes said c.read_buffer s → BreaksTo c.limits bytes said a q)
    → StaysBody (pieced s) (body_in q) → StandsAt p (record c { phase = Waiting s }) s → StandsAfter p (onto c a q c.write_buffer) q
History-broke p c s a q breaks body h = by s breaks body h
  where
    went : (s : Stage) (q : Phase FramedRequest) → body_in q ≡ None → (h : Stood p (record c { phase = Waiting s })) → BreaksTo c.limits h.start h.said a q → StandsAfter p (onto c a q c.write_buffer) q
    went s (Looking t) none h b = absurd b
    went s (Waiting t) none h b = absurd b
    went s (Owing i) none h b = record { start = h.start; said = h.said; text = h.text; reached = h.reached; sent = h.sent; stands = b.0 }
    went s (Piece d part) none h b = absurd cc
    went s (Over (Ok e)) none h b = absurd b
    went s (Over (Err f)) none h b =
        let first : Exchange (List Answering) = record { input = h.start; text = h.said; before = p.answered; after = p.answered } in
        let turn = BreaksTurn-next_message (NotesBy c.piece) c.limits 0 first f b.0 refl in
        let next = subst (λ i. BreaksTurn (NotesBy c.piece) c.limits 0 (record first { input = i }) f) (sym (append-nil h.start)) turn in
        let whole = Breaks-after (NotesBy c.piece) c.limits p.moments [] 0 (told p h.text) h.start [] h.said p.answered f h.reached next in (
          0 ∷ [],
          subst₂ (λ i t. Breaks (NotesBy c.piece) c.limits (p.moments ++ 0 ∷ []) (record (told p t) { input = i }) f) (append-nil p.taken) (sym h.sent) whole,
        )
    went s (Stopped r) none h b = absurd b

    owed : (b : PiecedBody) (q : Phase FramedRequest) → body_in q ≡ Some b → (h : StoodInPieces p (record c { phase = Waiting (Pieces b) }) b c.read_buffer.held) → BreaksTo c.limits h.start h.said a q
        → StandsIn c.limits h.start h.said a q
    owed b (Looking t) is h breaks = absurd breaks
    owed b (Waiting t) is h breaks = absurd breaks
    owed b (Owing i) is h breaks = absurd cc
    owed b (Piece d part) is h breaks = breaks.0
    owed b (Over r) is h breaks = absurd cc
    owed b (Stopped r) is h breaks = absurd breaks

    -- no body begins with a read that failed
    none-begins : (made : Option PiecedBody) → StaysBody None made → made ≡ None
    none-begins None stays = refl
    none-begins (Some b) stays = absurd stays

    pieces : (b : PiecedBody) → ((bytes said : List ℕ) → Standing c.limits bytes said c.read_buffer (Pieces b) → BreaksTo c.limits bytes said a q) → (made : Option PiecedBody) → body_in q ≡ made → StaysBody (Some b) made
        → StoodInPieces p (record c { phase = Waiting (Pieces b) }) b c.read_buffer.held → StandsAfter p (onto c a q c.write_buffer) q
    pieces b breaks None is keeps h =
        let stood = Stood-given_up p (record c { phase = Waiting (Pieces b) }) b (Waiting (Pieces b)) refl keeps.0 keeps.1 h (h.gone, h.taken) in
        went (Pieces b) q is stood (breaks stood.start stood.said stood.stands)
    pieces b breaks (Some d) is keeps h =
        let body : body_in q ≡ Some b = is ∙ ap Some keeps in
        let taken = taken-in c.limits h.start h.said a q b body (owed b q body h (breaks h.start h.said (h.gone, h.taken))) in
        pieces-history p (onto c a q c.write_buffer) b body
        (Stood-looked p [] (record c { phase = Waiting (Pieces b) }) (onto c a q c.write_buffer) b c.read_buffer.held (here_in a q) taken.0 refl refl (sym (append-nil c.write_buffer.pending)) h
        (subst (λ said. IsTaken c.limits h.start said taken.0 b (here_in a q)) (sym (append-nil h.said)) taken.1))

    by : (s : Stage) → ((bytes said : List ℕ) → Standing c.limits bytes said c.read_buffer s → BreaksTo c.limits bytes said a q) → StaysBody (pieced s) (body_in q) → StandsAt p (record c { phase = Waiting s }) s
        → StandsAfter p (onto c a q c.write_buffer) q
    by (Head t) breaks keeps h = went (Head t) q (none-begins (body_in q) keeps) h (breaks h.start h.said h.stands)
    by (Body l) breaks keeps h = went (Body l) q (none-begins (body_in q) keeps) h (breaks h.start h.said h.stands)
    by (Pieces b) breaks keeps h = pieces b breaks (body_in q) refl keeps h

-- what is owed came in
owing-of : (q : Phase FramedRequest) (i : Incoming FramedRequest) → owed_in q ≡ Some i → q ≡ Owing i
owing-of (Looking s) i is = absurd cc
owing-of (Waiting s) i is = absurd cc
owing-of (Owing j) i is = ap Owing cc
owing-of (Piece b part) i is = absurd cc
owing-of (Over r) i is = absurd cc
owing-of (Stopped r) i is = absurd cc

-- the next message begins behind what was answered
starts-again : (a : Ahead) → Searching a.held a.held search_start
starts-again a = subst (λ b. Searching b a.held search_start) (append-nil a.held) (Searching-start a.held)

-- What came was answered, and makes a turn: the connection goes on behind it, or ends with it.
pub History-turned : (p : History) (now : ℕ) (answered : List Answering) (c : OnConnection) (a : Ahead) (o : OnOutbox) (r : Result (Option Ended) WireFault) (start said text : List ℕ) (before : List Answering)
    → ((rest : List ℕ) → Turns (NotesBy c.piece) c.limits p.moments (followed (told_with p text before) rest) (start ++ rest)) → p.handed ++ o.pending ≡ text ++ said
    → TakesTurn (NotesBy c.piece) c.limits now (record { input = start; text = said; before = before; after = p.answered ++ answered }) a.held r
    → StandsAfter (noted p now answered) (onto c a (phase_after r) o) (phase_after r)
History-turned p now answered c a o r start said text before reached sent turn = go r turn
  where
    go : (r : Result (Option Ended) WireFault) → TakesTurn (NotesBy c.piece) c.limits now (record { input = start; text = said; before = before; after = p.answered ++ answered }) a.held r
        → StandsAfter (noted p now answered) (onto c a (phase_after r) o) (phase_after r)
    go (Ok None) t =
        let next = subst (λ i. (rest : List ℕ) → Answered (NotesBy c.piece) c.limits now (followed (record { input = i; text = said; before = before; after = p.answered ++ answered }) rest) (a.held ++ rest)) (sym (append-nil start)) t in
        let reached = Reached-more (NotesBy c.piece) c.limits p.moments now (told_with p text before) start [] said (p.answered ++ answered) a.held reached next in
        record {
          start = a.held;
          said = [];
          text = text ++ said;
          reached = λ rest. subst (λ i. Turns (NotesBy c.piece) c.limits (p.moments ++ now ∷ []) (followed (record (told (noted p now answered) (text ++ said)) { input = i }) rest) (a.held ++ rest)) (append-nil p.taken) (reached rest);
          sent = sent ∙ sym (append-nil (text ++ said));
          stands = (refl, starts-again a);
        }
    go (Ok (Some e)) t =
        let next = subst (λ i. (rest : List ℕ) → MayRemain e rest → LastTurn (NotesBy c.piece) c.limits now (followed (record { input = i; text = said; before = before; after = p.answered ++ answered }) rest) e) (sym (append-nil start)) t in
        let whole = Converses-last (NotesBy c.piece) c.limits p.moments [] now (told_with p text before) start [] said (p.answered ++ answered) e reached next in
        subst₂ (λ i t. Converses (NotesBy c.piece) c.limits (p.moments ++ now ∷ []) (record (told (noted p now answered) t) { input = i }) e) (append-nil p.taken) (sym sent) whole
    go (Err f) t =
        let next = subst (λ i. BreaksTurn (NotesBy c.piece) c.limits now (record { input = i; text = said; before = before; after = p.answered ++ answered }) f) (sym (append-nil start)) t in
        let whole = Breaks-after (NotesBy c.piece) c.limits p.moments [] now (told_with p text before) start [] said (p.answered ++ answered) f reached next in (
          [],
          subst (λ l. Breaks (NotesBy c.piece) c.limits l (told (noted p now answered) (p.handed ++ o.pending)) f) (sym (append-nil (p.moments ++ now ∷ [])))
              (subst₂ (λ i t. Breaks (NotesBy c.piece) c.limits (p.moments ++ now ∷ []) (record (told (noted p now answered) t) { input = i }) f) (append-nil p.taken) (sym sent) whole),
        )

-- what is said behind what was said, once that is put behind what is pending
pub sent-more : (p : History) (c : OnConnection) (o : OnOutbox) (text said put : List ℕ) → p.handed ++ c.write_buffer.pending ≡ text ++ said → o.pending ≡ c.write_buffer.pending ++ put → p.handed ++ o.pending ≡ text ++ (said ++ put)
sent-more p c o text said put sent pending =
    ap (λ l. p.handed ++ l) pending ∙ sym (append_assoc p.handed c.write_buffer.pending put) ∙ ap (λ l. l ++ put) sent ∙ append_assoc text said put

-- a message that came in, or what came in its place, was answered
pub History-answered : (p : History) (now : ℕ) (i : Incoming FramedRequest) (put : List ℕ) (answered : List Answering) (c : OnConnection) (o : OnOutbox)
    → AnswersTurn (NotesBy c.piece) now c.read_buffer i put p.answered (p.answered ++ answered) (turn_end i) → o.pending ≡ c.write_buffer.pending ++ put → Stood p (record c { phase = Owing i })
    → StandsAfter (noted p now answered) (onto c c.read_buffer (phase_after (turn_end i)) o) (phase_after (turn_end i))
History-answered p now i put answered c o turn pending h =
    History-turned p now answered c c.read_buffer o (turn_end i) h.start (h.said ++ put) h.text p.answered h.reached (sent-more p c o h.text h.said put h.sent pending)
    (TakesTurn-finished (NotesBy c.piece) c.limits now (record { input = h.start; text = h.said ++ put; before = p.answered; after = p.answered ++ answered }) c.read_buffer.held (turn_end i) (turn.sent c.limits h.start h.said h.stands))

-- behind a turn no body is taken in pieces
pub body-after : (r : Result (Option Ended) WireFault) → body_in {M = FramedRequest} (phase_after r) ≡ None
body-after (Ok None) = refl
body-after (Ok (Some e)) = refl
body-after (Err f) = refl

-- the same of the connection as the answer left it
pub History-owing : (p : History) (now : ℕ) (i : Incoming FramedRequest) (put : List ℕ) (answered : List Answering) (c : OnConnection) (a : Ahead) (o : OnOutbox) (q : Phase FramedRequest)
    → AnswersTurn (NotesBy c.piece) now c.read_buffer i put p.answered (p.answered ++ answered) (turn_end i) → o.pending ≡ c.write_buffer.pending ++ put → a ≡ c.read_buffer → q ≡ phase_after (turn_end i)
    → Stood p (record c { phase = Owing i }) → StandsAfter (noted_before (body_in q) p now answered) (onto c a q o) q
History-owing p now i put answered c a o q turn pending same is h =
    subst₂ (λ a q. StandsAfter (noted_before (body_in q) p now answered) (onto c a q o) q) (sym same) (sym is)
    (subst (λ b. StandsAfter (noted_before b p now answered) (onto c c.read_buffer (phase_after (turn_end i)) o) (phase_after (turn_end i))) (sym (body-after (turn_end i)))
    (History-answered p now i put answered c o turn pending h))

-- some of what was pending was sent
pub History-sent : (p : History) (n : ℕ) (old new : OnConnection) → new.write_buffer.pending ≡ drop n old.write_buffer.pending → new ≡ record old { write_buffer = new.write_buffer } → HasHistory p old → HasHistory (gave p (take n old.write_buffer.pending)) new
History-sent p n old new pending same history = subst (HasHistory (gave p (take n old.write_buffer.pending))) (sym same) (go old.phase history)
  where
    whole : (p.handed ++ take n old.write_buffer.pending) ++ new.write_buffer.pending ≡ p.handed ++ old.write_buffer.pending
    whole = append_assoc p.handed (take n old.write_buffer.pending) new.write_buffer.pending ∙ ap (λ l. p.handed ++ (take n old.write_buffer.pending ++ l)) pending ∙ ap (λ l. p.handed ++ l) (take-append-drop n old.write_buffer.pending)

    stood : Stood p old → Stood (gave p (take n old.write_buffer.pending)) (record old { write_buffer = new.write_buffer })
    stood h = record { start = h.start; said = h.said; text = h.text; reached = h.reached; sent = whole ∙ h.sent; stands = h.stands }

    in_pieces : (b : PiecedBody) (here : List ℕ) → StoodInPieces p old b here → StoodInPieces (gave p (take n old.write_buffer.pending)) (record old { write_buffer = new.write_buffer }) b here
    in_pieces b here h = record { start = h.start; said = h.said; text = h.text; gone = h.gone; before = h.before; pieces = h.pieces; answered = h.answered; reached = h.reached; sent = whole ∙ h.sent; taken = h.taken; given = h.given; asks = h.asks; sized = h.sized }

    at_stage : (s : Stage) → StandsAt p old s → StandsAt (gave p (take n old.write_buffer.pending)) (record old { write_buffer = new.write_buffer }) s
    at_stage (Head s) h = stood h
    at_stage (Body l) h = stood h
    at_stage (Pieces b) h = in_pieces b old.read_buffer.held h

    go : (q : Phase FramedRequest) → StandsAfter p old q → StandsAfter (gave p (take n old.write_buffer.pending)) (record old { write_buffer = new.write_buffer }) q
    go (Looking s) h = at_stage s h
    go (Waiting s) h = at_stage s h
    go (Owing i) h = stood h
    go (Piece b part) h = in_pieces b (old.read_buffer.lent ++ old.read_buffer.held) h
    go (Over (Ok e)) h = subst (λ t. Converses (NotesBy old.piece) old.limits p.moments (told p t) e) (sym whole) h
    go (Over (Err f)) h = (h.0, subst (λ t. Breaks (NotesBy old.piece) old.limits (p.moments ++ h.0) (told p t) f) (sym whole) h.1)
    go (Stopped r) h = record {
      start = h.start;
      text = h.text;
      said = h.said;
      layout = h.layout;
      head = h.head;
      gone = h.gone;
      before = h.before;
      pieces = h.pieces;
      last = h.last;
      moments = h.moments;
      timed = h.timed;
      answered = h.answered;
      reached = h.reached;
      sent = whole ∙ h.sent;
      long = h.long;
      begins = h.begins;
      plain = h.plain;
      size = h.size;
      by_size = h.by_size;
      longer = h.longer;
      given = h.given;
      sized = h.sized;
      last_size = h.last_size;
      piece = h.piece;
      more = h.more;
      stops = h.stops;
    }
