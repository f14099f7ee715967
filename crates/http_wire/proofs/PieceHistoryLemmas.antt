-- What the answer to a piece of a body adds to the history of a connection.
use Rattle.std.proofs.Common.{◌≡◌, ◌≤◌, ◌<◌, ◌+◌, ◌-◌, ◌&&◌, ℕ, Bool, true, false, not, if◌then◌else◌, List, [], ◌∷◌, ◌++◌, length, take, drop, Option, Some, None, is_some, Ok, IfSome, MatchBool, inr, refl, ap, sym, subst, subst₂, ◌∙◌, arith, append-nil, append_assoc, length-append}
use Rattle.std.proofs.lemmas.List.Elements.{All-push}
use Rattle.std.proofs.lemmas.List.{drop_at, length-take-le, length-drop, take-take}
use Rattle.tus_steps.specs.InPieces.{MayComeInPieces, as_creation, behind, created_in, is_patched, is_taken, method_behind, path_behind, reply_to_all}
use Rattle.tus_steps.specs.Method.{is_patch}
use Rattle.tus_steps.specs.Request.{Request}
use Rattle.tus_steps.specs.declared.method.Method.{Method}
use Rattle.tus_steps.specs.declared.reply.Reply.{Reply}
use Rattle.tus_steps.specs.declared.reply.Reply.TheVariants as reply
use Rattle.http_wire.specs.RequestLimits.{AreSmall}
use Rattle.http_wire.specs.Conversation.{continue_text}
use Rattle.http_wire.specs.History.{Answering, AreGiven, History, IsLastSize, NotesBy, NotesInPieces, StandsAfter, StoodInPieces, StopsWith, behind_pieces, noted, noted_before, noted_piece, piece_of}
use Rattle.http_wire.specs.Incoming.{FramedRequest}
use Rattle.http_wire.specs.Layout.{request_at}
use Rattle.http_wire.specs.NextMessage.{closing}
use Rattle.http_wire.specs.OnConnection.{OnConnection, body_in, phase_after}
use Rattle.http_wire.specs.PiecedBody.{piece_in}
use Rattle.http_wire.specs.ReplyText.{reply_text}
use Rattle.http_wire.specs.Turns.{TakesTurn}
use Rattle.http_wire.specs.declared.incoming.Cut.{Cut}
use Rattle.http_wire.specs.declared.incoming.Cut.TheVariants as cut
use Rattle.http_wire.specs.declared.phase.Phase.{Phase}
use Rattle.http_wire.specs.declared.phase.Phase.TheVariants.{Looking, Piece, Stopped}
use Rattle.http_wire.specs.declared.read.layout.Layout.{Layout}
use Rattle.http_wire.specs.declared.read.read_buffer.TheConstants.{READ_SIZE}
use Rattle.http_wire.specs.declared.read.pieces.Part.{Part}
use Rattle.http_wire.specs.declared.read.pieces.Part.TheVariants as part
use Rattle.http_wire.specs.declared.read.pieces.PiecedBody.{PiecedBody}
use Rattle.http_wire.specs.declared.read.stage.Stage.TheVariants.{Pieces}
use Rattle.http_wire.specs.inside.Ahead.{Ahead}
use Rattle.http_wire.specs.inside.HeadLayout.{BeginsHead}
use Rattle.http_wire.specs.inside.PieceAnswer.{Accepts, AnswersOwed, AnswersPiece, EndsBody, created_with, reply_by, with_lent}
use Rattle.http_wire.specs.inside.Phases.{IsConnection, map_phase}
use Rattle.http_wire.specs.inside.Sending.{OnOutbox}
use Rattle.http_wire.specs.inside.Standing.{HasPiece, IsPieced, lent_to}
use Rattle.http_wire.specs.inside.TurnFinish.{ended_after}
use Rattle.http_wire.proofs.ConversationLemmas.{Conversation-closed}
use Rattle.http_wire.proofs.HistoryLemmas.{History-turned, body-after, onto, sent-more}
use Rattle.http_wire.proofs.InPiecesLemmas.{noted-last, whole-message, whole-step}
use Rattle.http_wire.proofs.PhaseLemmas.{IsConnection-after, map-after}
use Rattle.http_wire.proofs.PieceLemmas.{AreGiven-push, IsTaken-accepted, IsTaken-kept, behind_pieces-push, lent-head, lent-rest, piece-lent, plain-request}
use Rattle.http_wire.specs.declared.request_limits.RequestLimits.{RequestLimits}

-- the answer to the piece that is lent
abbrev pub answer_to : PiecedBody → Ahead → ℕ → Reply → Answering
answer_to b a now reply = record { request = (piece_in b a.lent).request; now = now; reply = reply }

-- a request that is answered in pieces is noted so, where bodies are taken in pieces
NotesBy-pieces : (piece : Option ℕ) (n : ℕ) (before after : List Answering) (r : Request) (now : ℕ) (reply : Reply) → piece ≡ Some n → MayComeInPieces r → n < length r.body → NotesInPieces n before r now reply after
    → NotesBy piece before r now reply after
NotesBy-pieces piece n before after r now reply is plain long step = subst (λ s. NotesBy s before r now reply after) (sym is) (inr (plain, long, step))

-- the bytes of a PATCH create no upload
patched-creates : (reply : Reply) → is_patched reply ≡ true → created_in reply ≡ None
patched-creates (reply.Options max_size) is = absurd cc
patched-creates (reply.Created tenant id offset expires) is = absurd cc
patched-creates (reply.Head row) is = absurd cc
patched-creates (reply.Content bytes extent metadata) is = absurd cc
patched-creates (reply.Unsatisfiable len) is = absurd cc
patched-creates (reply.Patched offset expires) is = refl
patched-creates reply.Deleted is = absurd cc
patched-creates (reply.Refused why head at expires) is = absurd cc

-- what is asked for behind a piece that was taken
behind-taken : (made : Option ℕ) (r : Request) (reply : Reply) → is_taken (behind made r) reply ≡ true → behind (created_in reply) (behind made r) ≡ behind (created_with made reply) r
behind-taken None r reply taken = refl
behind-taken (Some id) r reply taken = rw (patched-creates reply taken) refl

-- the reply to the last piece is the reply to all
reply-last : (made : Option ℕ) (r : Request) (reply : Reply) → (is_patch r.method ≡ true → made ≡ None) → reply_by made (behind made r) reply ≡ reply_to_all r (behind made r) reply
reply-last None r reply own = by (is_patch r.method)
  where
    by : (patch : Bool) → reply ≡ (if patch && not patch then as_creation r.path reply else reply)
    by true = refl
    by false = refl
reply-last (Some id) r reply own = by (is_patch r.method) own
  where
    by : (patch : Bool) → (patch ≡ true → Some id ≡ None) → as_creation (path_behind (Some id) r.path) reply ≡ (if not patch then as_creation (path_behind (Some id) r.path) reply else reply)
    by true own = absurd (none (own refl))
      where
        none : Some id ≡ None → ⊥
        none is = absurd cc
    by false own = refl

-- What stood while this piece was lent, by its head and its bytes.
module _ (p : History) (c : OnConnection) (b : PiecedBody) (which : Part) (pieced : IsPieced c.read_buffer.room b) (h : StoodInPieces p (record c { phase = Piece b which }) b (c.read_buffer.lent ++ c.read_buffer.held)) (within : b.layout.head_len ≤ length c.read_buffer.lent) where
  abbrev n : ℕ
  n = b.layout.head_len

  abbrev head : List ℕ
  head = take b.layout.head_len c.read_buffer.lent

  abbrev bytes : List ℕ
  bytes = drop b.layout.head_len c.read_buffer.lent

  begins : BeginsHead c.limits h.start b.layout (head ++ (h.gone ++ (bytes ++ c.read_buffer.held)))
  begins = rw (← lent-head n c.read_buffer.lent c.read_buffer.held within, ← lent-rest n c.read_buffer.lent c.read_buffer.held within) h.taken.begins

  given : AreGiven (request_at b.layout head) b.layout.body_len 0 h.pieces h.gone
  given = rw (← lent-head n c.read_buffer.lent c.read_buffer.held within) h.given

  -- what is asked for with it
  asks : behind_pieces (request_at b.layout head) h.pieces ≡ behind b.created (request_at b.layout head)
  asks = rw (← lent-head n c.read_buffer.lent c.read_buffer.held within) h.asks

  -- it is the next piece of its message
  next : (piece_in b c.read_buffer.lent).request ≡ piece_of (behind_pieces (request_at b.layout head) h.pieces) b.layout.body_len (length h.gone) bytes
  next =
      piece-lent b c.read_buffer.lent pieced.whole ∙ ap (λ k. piece_of (behind b.created (request_at b.layout head)) b.layout.body_len k bytes) (sym h.taken.given)
      ∙ ap (λ (r : Request). piece_of r b.layout.body_len (length h.gone) bytes) (sym asks)

  -- the method is that of the layout
  method_is : (request_at b.layout head).method ≡ b.layout.method
  method_is = rw pieced.whole refl

  -- the last piece was answered
  pub History-last : (now : ℕ) (reply : Reply) (o : OnOutbox) → c.piece ≡ Some b.piece → lent_to c.read_buffer b ≡ b.layout.body_len
      → o.pending ≡ c.write_buffer.pending ++ reply_text (reply_by b.created (piece_in b c.read_buffer.lent).request reply) now b.layout.framing
      → StandsAfter (noted p now (answer_to b c.read_buffer now reply ∷ [])) (onto c c.read_buffer (phase_after (Ok (ended_after b.layout.framing.close))) o) (phase_after (Ok (ended_after b.layout.framing.close)))
  History-last now reply o piece whole pending =
      History-turned p now (answer_to b c.read_buffer now reply ∷ []) c c.read_buffer o (Ok (ended_after b.layout.framing.close)) h.start (h.said ++ reply_text told now b.layout.framing) h.text h.before h.reached
      (sent-more p c o h.text h.said (reply_text told now b.layout.framing) h.sent (pending ∙ ap (λ reply. c.write_buffer.pending ++ reply_text reply now b.layout.framing) told_is)) (turn b.layout.framing.close refl)
    where
      told : Reply
      told = reply_to_all (request_at b.layout head) (behind_pieces (request_at b.layout head) h.pieces) reply

      told_is : reply_by b.created (piece_in b c.read_buffer.lent).request reply ≡ told
      told_is =
          ap (λ (r : Request). reply_by b.created r reply) (next ∙ ap (λ (r : Request). piece_of r b.layout.body_len (length h.gone) bytes) asks)
          ∙ by_path b.created
          ∙ reply-last b.created (request_at b.layout head) reply (λ patch. pieced.own (sym (ap is_patch method_is) ∙ patch))
          ∙ ap (λ (r : Request). reply_to_all (request_at b.layout head) r reply) (sym asks)
        where
          by_path : (made : Option ℕ) → reply_by made (piece_of (behind b.created (request_at b.layout head)) b.layout.body_len (length h.gone) bytes) reply ≡ reply_by made (behind b.created (request_at b.layout head)) reply
          by_path None = refl
          by_path (Some id) = refl

      count : length h.gone + length bytes ≡ b.layout.body_len
      count = omega (arith, h.taken.given, length-drop n c.read_buffer.lent, whole)

      parted : BeginsHead c.limits h.start b.layout (head ++ ((h.gone ++ bytes) ++ c.read_buffer.held))
      parted = subst (λ l. BeginsHead c.limits h.start b.layout (head ++ l)) (sym (append_assoc h.gone bytes c.read_buffer.held)) begins

      long : length head ≡ n
      long = length-take-le n c.read_buffer.lent within

      request : Request
      request = request_at b.layout (head ++ (h.gone ++ bytes))

      after : List Answering
      after = p.answered ++ answer_to b c.read_buffer now reply ∷ []

      step : NotesBy c.piece h.before request now told after
      step = NotesBy-pieces c.piece b.piece h.before after request now told piece (plain-request b.layout (head ++ (h.gone ++ bytes)) pieced.plain)
          (omega (arith, ap length (drop_at head (h.gone ++ bytes) n long), length-append h.gone bytes, count, pieced.long))
          (subst (NotesInPieces b.piece h.before request now told) (rw (h.answered, next) refl)
          (noted-last b.piece bytes h.before request now told _ (omega (arith, count, h.taken.given, pieced.given)) (whole-step b.piece c.limits h.start b.layout head h.gone bytes c.read_buffer.held h.before h.pieces now reply parted long count given h.sized)))

      wrote : h.said ++ reply_text told now b.layout.framing ≡ continue_text b.layout.is_waiting ++ reply_text told now b.layout.framing
      wrote = ap (λ l. l ++ reply_text told now b.layout.framing) h.taken.waits

      turn : (close : Bool) → b.layout.framing.close ≡ close
          → TakesTurn (NotesBy c.piece) c.limits now (record { input = h.start; text = h.said ++ reply_text told now b.layout.framing; before = h.before; after = after }) c.read_buffer.held (Ok (ended_after close))
      turn false is = λ rest. record {
        request = request;
        framing = b.layout.framing;
        waiting = b.layout.is_waiting;
        reply = told;
        next_message = whole-message c.limits h.start b.layout head h.gone bytes c.read_buffer.held parted long count rest;
        stays = is;
        step = step;
        wrote = wrote;
      }
      turn true is = λ rest _ moments.
          Conversation-closed (NotesBy c.piece) c.limits now moments (record { input = h.start ++ rest; text = h.said ++ reply_text told now b.layout.framing; before = h.before; after = after }) request b.layout.framing b.layout.is_waiting (c.read_buffer.held ++ rest) told
          (whole-message c.limits h.start b.layout head h.gone bytes c.read_buffer.held parted long count rest) step is wrote

  -- a piece with more to come was accepted
  pub History-accepted : (now : ℕ) (reply : Reply) (a : Ahead) (o : OnOutbox) → c.read_buffer.held ≡ [] → b.layout.head_len + b.piece ≤ length c.read_buffer.lent → is_taken (piece_in b c.read_buffer.lent).request reply ≡ true → a.held ≡ head → o.pending ≡ c.write_buffer.pending
      → StandsAfter (noted_piece p now (answer_to b c.read_buffer now reply ∷ [])) (onto c a (Looking (Pieces (with_lent c.read_buffer reply b))) o) (Looking (Pieces (with_lent c.read_buffer reply b)))
  History-accepted now reply a o none whole accepted held pending = record {
    start = h.start;
    said = h.said;
    text = h.text;
    gone = h.gone ++ bytes;
    before = h.before;
    pieces = h.pieces ++ answer_to b c.read_buffer now reply ∷ [];
    answered = ap (λ l. l ++ answer_to b c.read_buffer now reply ∷ []) h.answered ∙ append_assoc h.before h.pieces (answer_to b c.read_buffer now reply ∷ []);
    reached = h.reached;
    sent = ap (λ l. p.handed ++ l) pending ∙ h.sent;
    taken = IsTaken-kept c.limits h.start h.said (h.gone ++ bytes) (with_lent c.read_buffer reply b) head a.held
        (IsTaken-accepted c.limits h.start h.said h.gone c.read_buffer.lent b (created_with b.created reply) (IsTaken-kept c.limits h.start h.said h.gone b (c.read_buffer.lent ++ c.read_buffer.held) (c.read_buffer.lent ++ []) h.taken (ap (λ l. c.read_buffer.lent ++ l) (sym none))) within) held;
    given = subst (λ l. AreGiven (request_at b.layout l) b.layout.body_len 0 (h.pieces ++ answer_to b c.read_buffer now reply ∷ []) (h.gone ++ bytes)) (sym (ap (take n) held ∙ same_head))
        (AreGiven-push (request_at b.layout head) b.layout.body_len 0 h.pieces h.gone bytes (answer_to b c.read_buffer now reply) given (next ∙ ap (λ k. piece_of (behind_pieces (request_at b.layout head) h.pieces) b.layout.body_len k bytes) (sym zero))
        taken_of (omega (arith, length-drop n c.read_buffer.lent, whole, pieced.some)));
    asks = subst (λ l. behind_pieces (request_at b.layout l) (h.pieces ++ answer_to b c.read_buffer now reply ∷ []) ≡ behind (created_with b.created reply) (request_at b.layout l)) (sym (ap (take n) held ∙ same_head))
        (behind_pieces-push (request_at b.layout head) h.pieces (answer_to b c.read_buffer now reply) ∙ ap (behind (created_in reply)) asks ∙ behind-taken b.created (request_at b.layout head) reply (subst (λ (r : Request). is_taken r reply ≡ true) asks taken_of));
    sized = All-push (λ (q : Answering). b.piece ≤ length q.request.body) h.pieces (answer_to b c.read_buffer now reply) h.sized (omega (arith, length-drop n c.read_buffer.lent, whole));
  }
    where
      zero : 0 + length h.gone ≡ length h.gone
      zero = omega arith

      same_head : take n head ≡ head
      same_head = take-take n n c.read_buffer.lent (omega arith)

      taken_of : is_taken (behind_pieces (request_at b.layout head) h.pieces) reply ≡ true
      taken_of = subst (λ (r : Request). is_taken r reply ≡ true) next accepted

  -- the connection ends with a piece
  pub History-stopped : (now : ℕ) (reply : Reply) (o : OnOutbox) (put : List ℕ) (why : Option Cut) → c.piece ≡ Some b.piece → lent_to c.read_buffer b < b.layout.body_len → c.read_buffer.held ≡ [] → IsLastSize b.piece why (length c.read_buffer.lent - n) → o.pending ≡ c.write_buffer.pending ++ put
      → StopsWith c.read_buffer.ended why b.layout (answer_to b c.read_buffer now reply) (continue_text b.layout.is_waiting ++ put)
      → StandsAfter (noted p now (answer_to b c.read_buffer now reply ∷ [])) (onto c c.read_buffer (Stopped why) o) (Stopped why)
  History-stopped now reply o put why size more none last_size pending stops = record {
    start = h.start;
    text = h.text;
    said = h.said ++ put;
    layout = b.layout;
    head = head;
    gone = h.gone;
    before = h.before;
    pieces = h.pieces;
    last = answer_to b c.read_buffer now reply;
    moments = p.moments;
    timed = refl;
    answered = ap (λ l. l ++ answer_to b c.read_buffer now reply ∷ []) h.answered;
    reached = h.reached;
    sent = sent-more p c o h.text h.said put h.sent pending;
    long = length-take-le n c.read_buffer.lent within;
    begins = subst (λ l. BeginsHead c.limits h.start b.layout (head ++ (h.gone ++ l))) (ap (λ l. bytes ++ l) none ∙ append-nil bytes) begins;
    plain = plain-request b.layout head pieced.plain;
    size = b.piece;
    by_size = size;
    longer = pieced.long;
    given = given;
    sized = h.sized;
    last_size = subst (IsLastSize b.piece why) (sym (length-drop n c.read_buffer.lent)) last_size;
    piece = next;
    more = omega (arith, more);
    stops = subst (StopsWith c.read_buffer.ended why b.layout (answer_to b c.read_buffer now reply)) (ap (λ l. l ++ put) (sym h.taken.waits)) stops;
  }

-- how far the connection has come, whatever is told of messages
module _ (f : Layout → FramedRequest) where
  -- the piece that is owed an answer was answered
  pub History-piece : (p : History) (now : ℕ) (b : PiecedBody) (which : Part) (reply : Reply) (c : OnConnection) (a : Ahead) (o : OnOutbox) (q : Phase Layout) → HasPiece c.read_buffer b which → c.piece ≡ Some b.piece
      → AnswersPiece now b which reply c.read_buffer a c.write_buffer.pending o.pending q → StoodInPieces p (record c { phase = Piece b which }) b (c.read_buffer.lent ++ c.read_buffer.held)
      → StandsAfter (noted_before (body_in (map_phase f q)) p now (answer_to b c.read_buffer now reply ∷ [])) (onto c a (map_phase f q) o) (map_phase f q)
  History-piece p now b which reply c a o q has piece answers h = go which has answers h
    where
      answered : List Answering
      answered = answer_to b c.read_buffer now reply ∷ []

      -- the connection is as it was, but for what is put and how far it has come
      left : (q q' : Phase Layout) (r : Phase FramedRequest) → map_phase f q' ≡ r → body_in r ≡ None → q ≡ q' → a ≡ c.read_buffer → StandsAfter (noted p now answered) (onto c c.read_buffer r o) r
          → StandsAfter (noted_before (body_in (map_phase f q)) p now answered) (onto c a (map_phase f q) o) (map_phase f q)
      left q q' r maps none is same stands =
          subst₂ (λ a q. StandsAfter (noted_before (body_in q) p now answered) (onto c a q o) q) (sym same) (sym (ap (map_phase f) is ∙ maps))
          (subst (λ b. StandsAfter (noted_before b p now answered) (onto c c.read_buffer r o) r) (sym none) stands)

      middle : (accepted : Bool) → is_taken (piece_in b c.read_buffer.lent).request reply ≡ accepted → HasPiece c.read_buffer b part.Middle
          → MatchBool accepted (Accepts b reply c.read_buffer a c.write_buffer.pending o.pending q) (EndsBody (reply_text reply now (closing b.layout.framing)) (Stopped None) c.read_buffer a c.write_buffer.pending o.pending q)
          → StoodInPieces p (record c { phase = Piece b part.Middle }) b (c.read_buffer.lent ++ c.read_buffer.held)
          → StandsAfter (noted_before (body_in (map_phase f q)) p now answered) (onto c a (map_phase f q) o) (map_phase f q)
      middle true is has answers h =
          subst (λ q. StandsAfter (noted_before (body_in (map_phase f q)) p now answered) (onto c a (map_phase f q) o) (map_phase f q)) (sym answers.phase)
          (History-accepted p c b part.Middle has.body h has.lent now reply a o has.part.1 has.part.2 is (ap (λ (a : Ahead). a.held) answers.read_buffer) answers.pending)
      middle false is has answers h =
          left q (Stopped None) (Stopped None) refl refl answers.phase answers.read_buffer
          (History-stopped p c b part.Middle has.body h has.lent now reply o (reply_text reply now (closing b.layout.framing)) None piece has.part.0 has.part.1 (omega (arith, has.part.2)) answers.pending (is, refl))

      parted : (why : Cut) → HasPiece c.read_buffer b (part.Cut why) → EndsBody [] (Stopped (Some why)) c.read_buffer a c.write_buffer.pending o.pending q
          → StoodInPieces p (record c { phase = Piece b (part.Cut why) }) b (c.read_buffer.lent ++ c.read_buffer.held)
          → StandsAfter (noted_before (body_in (map_phase f q)) p now answered) (onto c a (map_phase f q) o) (map_phase f q)
      parted cut.Ended has answers h =
          left q (Stopped (Some cut.Ended)) (Stopped (Some cut.Ended)) refl refl answers.phase answers.read_buffer
          (History-stopped p c b (part.Cut cut.Ended) has.body h has.lent now reply o [] (Some cut.Ended) piece has.part.0 has.part.1 (omega (arith, has.part.2, has.lent, has.body.some)) answers.pending (has.part.3, has.part.4, append-nil (continue_text b.layout.is_waiting)))
      parted cut.Fault has answers h =
          left q (Stopped (Some cut.Fault)) (Stopped (Some cut.Fault)) refl refl answers.phase answers.read_buffer
          (History-stopped p c b (part.Cut cut.Fault) has.body h has.lent now reply o [] (Some cut.Fault) piece has.part.0 has.part.1 (omega (arith, has.part.2, has.lent, has.body.some)) answers.pending (has.part.3, has.part.4, append-nil (continue_text b.layout.is_waiting)))

      go : (which : Part) → HasPiece c.read_buffer b which → AnswersPiece now b which reply c.read_buffer a c.write_buffer.pending o.pending q
          → StoodInPieces p (record c { phase = Piece b which }) b (c.read_buffer.lent ++ c.read_buffer.held)
          → StandsAfter (noted_before (body_in (map_phase f q)) p now answered) (onto c a (map_phase f q) o) (map_phase f q)
      go part.Middle has answers h = middle (is_taken (piece_in b c.read_buffer.lent).request reply) refl has answers h
      go part.Last has answers h =
          let e = Ok (ended_after b.layout.framing.close) in
          left q (phase_after e) (phase_after e) (map-after f (phase_after e) e refl) (body-after e) answers.phase answers.read_buffer
          (History-last p c b part.Last has.body h has.lent now reply o piece has.part answers.pending)
      go (part.Cut why) has answers h = parted why has answers h

-- a piece that was taken of no PATCH created an upload
created_some : (made : Option ℕ) (m : Method) (reply : Reply) → (if is_patch (method_behind made m) then is_patched reply else is_some (created_in reply)) ≡ true → created_with made reply ≡ None → is_patch m ≡ false → ⊥
created_some None m reply taken none other = some (created_in reply) (rw other at taken) none
  where
    some : (made : Option ℕ) → is_some made ≡ true → made ≡ None → ⊥
    some None is none = absurd cc
    some (Some id) is none = absurd cc
created_some (Some id) m reply taken none other = absurd cc

-- and one of a PATCH created none
created_none : (made : Option ℕ) (m : Method) (reply : Reply) → (if is_patch (method_behind made m) then is_patched reply else is_some (created_in reply)) ≡ true → is_patch m ≡ true → made ≡ None → created_with made reply ≡ None
created_none None m reply taken patch none = patched-creates reply (rw patch at taken)
created_none (Some id) m reply taken patch none = absurd cc

-- what holds of every connection holds of it as the answer left it
pub IsConnection-piece : (now : ℕ) (b : PiecedBody) (which : Part) (reply : Reply) (old a : Ahead) (before after : List ℕ) (q : Phase Layout) (limits : RequestLimits) (piece : Option ℕ) → AreSmall limits → piece ≡ Some b.piece → HasPiece old b which
    → AnswersPiece now b which reply old a before after q → IsConnection a q limits piece
IsConnection-piece now b which reply old a before after q limits piece size is has answers = go which has answers
  where
    some : IfSome piece (λ n. 0 < n)
    some = subst (λ s. IfSome s (λ n. 0 < n)) (sym is) has.body.some

    stopped : (why : Option Cut) (put : List ℕ) → EndsBody put (Stopped why) old a before after q → IsConnection a q limits piece
    stopped why put answers = subst (λ q. IsConnection a q limits piece) (sym answers.phase) (record { size = size; some = some; phase = tt; body = tt; gathered = tt })

    middle : (accepted : Bool) → is_taken (piece_in b old.lent).request reply ≡ accepted → HasPiece old b part.Middle → MatchBool accepted (Accepts b reply old a before after q) (EndsBody (reply_text reply now (closing b.layout.framing)) (Stopped None) old a before after q)
        → IsConnection a q limits piece
    middle true taken has answers = subst (λ q. IsConnection a q limits piece) (sym answers.phase) (record {
      size = size;
      some = some;
      phase = record {
        body = record {
          head = has.body.head;
          body = has.body.body;
          given = has.part.0;
          some = has.body.some;
          long = has.body.long;
          room = subst (λ k. b.layout.head_len + b.piece + READ_SIZE ≤ k) (sym (ap (λ (a : Ahead). a.room) answers.read_buffer)) has.body.room;
          within = has.body.within;
          plain = has.body.plain;
          whole = has.body.whole;
          first = λ none other. absurd (created_some b.created b.layout.method reply taken none other);
          own = λ patch. created_none b.created b.layout.method reply taken patch (has.body.own patch);
        };
        held = omega (arith, ap (λ (a : Ahead). length a.held) answers.read_buffer, length-take-le b.layout.head_len old.lent has.lent);
      };
      body = is;
      gathered = tt;
    })
    middle false taken has answers = stopped None (reply_text reply now (closing b.layout.framing)) answers

    go : (which : Part) → HasPiece old b which → AnswersPiece now b which reply old a before after q → IsConnection a q limits piece
    go part.Middle has answers = middle (is_taken (piece_in b old.lent).request reply) refl has answers
    go part.Last has answers = IsConnection-after a q limits piece (Ok (ended_after b.layout.framing.close)) size some answers.phase
    go (part.Cut why) has answers = stopped (Some why) [] answers

-- the same answer, whatever is told of messages
pub AnswersPiece-mapped : (f : Layout → FramedRequest) (now : ℕ) (b : PiecedBody) (which : Part) (reply : Reply) (old new : Ahead) (before after : List ℕ) (q : Phase Layout)
    → AnswersPiece now b which reply old new before after q → AnswersPiece now b which reply old new before after (map_phase f q)
AnswersPiece-mapped f now b which reply old new before after q answers = go which answers
  where
    left : (put : List ℕ) (p : Phase Layout) (r : Phase FramedRequest) → map_phase f p ≡ r → EndsBody put p old new before after q → EndsBody put r old new before after (map_phase f q)
    left put p r maps h = record { read_buffer = h.read_buffer; pending = h.pending; phase = ap (map_phase f) h.phase ∙ maps }

    middle : (accepted : Bool) → MatchBool accepted (Accepts b reply old new before after q) (EndsBody (reply_text reply now (closing b.layout.framing)) (Stopped None) old new before after q)
        → MatchBool accepted (Accepts b reply old new before after (map_phase f q)) (EndsBody (reply_text reply now (closing b.layout.framing)) (Stopped None) old new before after (map_phase f q))
    middle true h = record { read_buffer = h.read_buffer; pending = h.pending; phase = ap (map_phase f) h.phase }
    middle false h = left (reply_text reply now (closing b.layout.framing)) (Stopped None) (Stopped None) refl h

    go : (which : Part) → AnswersPiece now b which reply old new before after q → AnswersPiece now b which reply old new before after (map_phase f q)
    go part.Middle h = middle (is_taken (piece_in b old.lent).request reply) h
    go part.Last h =
        let e = Ok (ended_after b.layout.framing.close) in
        left (reply_text (reply_by b.created (piece_in b old.lent).request reply) now b.layout.framing) (phase_after e) (phase_after e) (map-after f (phase_after e) e refl) h
    go (part.Cut why) h = left [] (Stopped (Some why)) (Stopped (Some why)) refl h

-- the piece that a connection owes an answer was answered
pub AnswersOwed-piece : {A : Type 0} (steps : A → Request → ℕ → Reply → A → Type 0) (f g : Layout → FramedRequest) (now : ℕ) (b : PiecedBody) (which : Part) (reply : Reply) (before after : A) (c : OnConnection) (a : Ahead) (o : OnOutbox)
    (p q : Phase Layout) → p ≡ Piece b which → steps before (piece_in b c.read_buffer.lent).request now reply after → AnswersPiece now b which reply c.read_buffer a c.write_buffer.pending o.pending q
    → AnswersOwed steps now before after c (onto c a (map_phase g q) o) (map_phase f p)
AnswersOwed-piece steps f g now b which reply before after c a o p q is step answers =
    subst (λ p. AnswersOwed steps now before after c (onto c a (map_phase g q) o) (map_phase f p)) (sym is)
    (reply, step, AnswersPiece-mapped g now b which reply c.read_buffer a c.write_buffer.pending o.pending q answers)
