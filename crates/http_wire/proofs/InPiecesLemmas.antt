-- A body that comes in pieces.
use Rattle.std.proofs.Common.{◌≡◌, ◌<◌, ◌≤◌, ◌+◌, ℕ, false, List, [], ◌∷◌, ◌++◌, length, take, drop, All, refl, ap, sym, subst, ◌∙◌, arith, append-nil, append_assoc, length-append}
use Rattle.std.proofs.lemmas.List.Elements.{All-nil, All-cons, All-head, All-tail}
use Rattle.std.proofs.lemmas.List.{take_at, drop_at, take_all}
use Rattle.tus_steps.specs.Request.{Request}
use Rattle.tus_steps.specs.declared.reply.Reply.{Reply}
use Rattle.tus_steps.specs.InPieces.{InPieces, PieceAt, Takes, behind, created_in, first_of, reply_to_all, rest_of}
use Rattle.http_wire.specs.InPieces.{PiecesAreATurn}
use Rattle.http_wire.specs.Layout.{request_at}
use Rattle.http_wire.specs.History.{Answering, AreGiven, AreLong, Notes, NotesInPieces, behind_pieces, piece_of}
use Rattle.http_wire.specs.declared.read.layout.Layout.{Layout}
use Rattle.http_wire.specs.inside.Ahead.{Ahead}
use Rattle.http_wire.specs.inside.HeadLayout.{BeginsHead}
use Rattle.http_wire.specs.NextMessage.{IsNextMessage, message}
use Rattle.http_wire.proofs.NextMessageLemmas.{IsNextMessage-message}
use Rattle.http_wire.specs.declared.request_limits.RequestLimits.{RequestLimits}

-- the whole of a request under a head, from a place of its body on
abbrev from_place : Request → ℕ → List ℕ → Request
from_place r given bytes = record r { body = bytes; given = given; more = 0 }

-- a request by its numbers
abbrev with_numbers : Request → List ℕ → ℕ → ℕ → Request
with_numbers r body given more = record r { body = body; given = given; more = more }

same_numbers : (r : Request) (body body' : List ℕ) (given given' more more' : ℕ) → body ≡ body' → given ≡ given' → more ≡ more' → with_numbers r body given more ≡ with_numbers r body' given' more'
same_numbers r body body' given given' more more' b g m = rw (b, g, m) refl

-- the first piece of it
first_of-piece : (r : Request) (n given : ℕ) (piece later last : List ℕ) → given + (length piece + length later + length last) ≡ n
    → first_of (from_place r given (piece ++ (later ++ last))) (length piece) ≡ piece_of r n given piece
first_of-piece r n given piece later last all =
    same_numbers r _ piece given given _ _ (take_at piece (later ++ last) (length piece) refl) refl
    (omega (arith, length-append piece (later ++ last), length-append later last, all))

-- and what is left
rest_of-piece : (r : Request) (given : ℕ) (piece rest : List ℕ) (reply : Reply) → rest_of (from_place r given (piece ++ rest)) (length piece) reply ≡ from_place (behind (created_in reply) r) (given + length piece) rest
rest_of-piece r given piece rest reply = same_numbers (behind (created_in reply) r) _ rest _ _ 0 0 (drop_at piece rest (length piece) refl) refl refl

-- an answer by its parts
abbrev answering : Request → ℕ → Reply → Answering
answering request now reply = record { request = request; now = now; reply = reply }

-- the lengths and moments of pieces that were taken
pieces_in : (r : Request) (n given : ℕ) (answered : List Answering) (bytes : List ℕ) → AreGiven r n given answered bytes → List PieceAt
pieces_in r n given [] bytes is = []
pieces_in r n given (q ∷ answered) bytes is = record { len = length is.0; now = q.now } ∷ pieces_in (behind (created_in q.reply) r) n (given + length is.0) answered is.1 is.6

-- they are taken of the request that they begin
given-taken : (r : Request) (n given : ℕ) (before answered : List Answering) (bytes last : List ℕ) (is : AreGiven r n given answered bytes) → given + (length bytes + length last) ≡ n
    → Takes Notes before (from_place r given (bytes ++ last)) (pieces_in r n given answered bytes is) (before ++ answered) (from_place (behind_pieces r answered) (given + length bytes) last)
unfolding pieces_in
given-taken r n given before [] bytes last is all =
    (append-nil before, same_numbers r last (bytes ++ last) (given + length bytes) given 0 0 (ap (λ l. l ++ last) (sym is)) (rw is (omega arith)) refl)
given-taken r n given before (q ∷ answered) bytes last is all =
    let piece = is.0 in
    let later = is.1 in
    let whole : bytes ++ last ≡ piece ++ (later ++ last) = ap (λ l. l ++ last) is.4 ∙ append_assoc piece later last in
    let count : length bytes ≡ length piece + length later = ap length is.4 ∙ length-append piece later in
    let first : first_of (from_place r given (bytes ++ last)) (length piece) ≡ q.request =
    ap (λ l. first_of (from_place r given l) (length piece)) whole ∙ first_of-piece r n given piece later last (omega (arith, all, count)) ∙ sym is.2 in
    let next = behind (created_in q.reply) r in
    let left = behind_pieces next answered in
    let rest : rest_of (from_place r given (bytes ++ last)) (length piece) q.reply ≡ from_place next (given + length piece) (later ++ last) =
    ap (λ l. rest_of (from_place r given l) (length piece) q.reply) whole ∙ rest_of-piece r given piece (later ++ last) q.reply in
    let others = given-taken next n (given + length piece) (before ++ q ∷ []) answered later last is.6 (omega (arith, all, count)) in
    let ends : from_place left (given + length piece + length later) last ≡ from_place left (given + length bytes) last = same_numbers left last last _ _ 0 0 refl (omega (arith, count)) refl in (
      before ++ q ∷ [],
      q.reply,
      is.5,
      omega (arith, ap length whole, length-append piece (later ++ last)),
      ap (λ request. before ++ answering request q.now q.reply ∷ []) (sym first),
      is.3,
      subst (λ request. Takes Notes (before ++ q ∷ []) request (pieces_in next n (given + length piece) answered later is.6) (before ++ (q ∷ answered)) (from_place left (given + length bytes) last)) (sym rest)
          (subst (λ end. Takes Notes (before ++ q ∷ []) (from_place next (given + length piece) (later ++ last)) (pieces_in next n (given + length piece) answered later is.6) (before ++ (q ∷ answered)) end) ends
          (subst (λ after. Takes Notes (before ++ q ∷ []) (from_place next (given + length piece) (later ++ last)) (pieces_in next n (given + length piece) answered later is.6) after (from_place left (given + length piece + length later) last)) (append_assoc before (q ∷ []) answered) others)),
    )

-- they have the sizes of the pieces that were answered
pieces-long : (m : ℕ) (r : Request) (n given : ℕ) (answered : List Answering) (bytes : List ℕ) (is : AreGiven r n given answered bytes) → AreLong m answered → All (λ (q : PieceAt). m ≤ q.len) (pieces_in r n given answered bytes is)
unfolding pieces_in
pieces-long m r n given [] bytes is long = All-nil (λ (q : PieceAt). m ≤ q.len)
pieces-long m r n given (q ∷ answered) bytes is long =
    let at_least = λ (q : Answering). m ≤ length q.request.body in
    All-cons (λ (q : PieceAt). m ≤ q.len) (record { len = length is.0; now = q.now }) (pieces_in (behind (created_in q.reply) r) n (given + length is.0) answered is.1 is.6) (subst (λ (r : Request). m ≤ length r.body) is.2 (All-head at_least q answered long))
    (pieces-long m (behind (created_in q.reply) r) n (given + length is.0) answered is.1 is.6 (All-tail at_least q answered long))

any-long : (answered : List Answering) → AreLong 0 answered
any-long [] = All-nil (λ (q : Answering). 0 ≤ length q.request.body)
any-long (q ∷ answered) = All-cons (λ (q : Answering). 0 ≤ length q.request.body) q answered (omega arith) (any-long answered)

-- a request is noted in pieces, each of at least so many bytes but the last, which has these
abbrev IsNotedBy : ℕ → List ℕ → List Answering → Request → ℕ → Reply → List Answering → Type 0
IsNotedBy m last before r now reply after = (step : InPieces Notes before r now reply after) × All (λ (q : PieceAt). m ≤ q.len) step.pieces × (step.left.body ≡ last)

-- the last has some
pub noted-last : (m : ℕ) (last : List ℕ) (before : List Answering) (r : Request) (now : ℕ) (reply : Reply) (after : List Answering) → 0 < length last → IsNotedBy m last before r now reply after → NotesInPieces m before r now reply after
noted-last m last before r now reply after some step = (step.0, step.1, subst (λ (bytes : List ℕ). 0 < length bytes) (sym step.2) some)

-- a body that came in pieces is answered in pieces
answered-in_pieces : (m : ℕ) (r : Request) (n now : ℕ) (before answered : List Answering) (gone last : List ℕ) (reply : Reply) → AreGiven r n 0 answered gone → length gone + length last ≡ n → AreLong m answered
    → IsNotedBy m last before (from_place r 0 (gone ++ last)) now (reply_to_all r (behind_pieces r answered) reply) ((before ++ answered) ++ answering (piece_of (behind_pieces r answered) n (length gone) last) now reply ∷ [])
answered-in_pieces m r n now before answered gone last reply is all long =
    let next = behind_pieces r answered in
    let left : from_place next (0 + length gone) last ≡ piece_of next n (length gone) last = same_numbers next last last _ _ _ _ refl (omega arith) (omega (arith, all)) in (
      record {
        pieces = pieces_in r n 0 answered gone is;
        between = before ++ answered;
        left = from_place next (0 + length gone) last;
        last = reply;
        taken = given-taken r n 0 before answered gone last is (omega (arith, all));
        ends = ap (λ request. (before ++ answered) ++ answering request now reply ∷ []) (sym left);
        told = refl;
      },
      pieces-long m r n 0 answered gone is long,
      refl,
    )

-- the request of a whole message, by that of its head alone
request-whole : (p : Layout) (head body : List ℕ) → length head ≡ p.head_len → p.given ≡ 0 → p.more ≡ 0 → request_at p (head ++ body) ≡ from_place (request_at p head) 0 body
request-whole p head body long none no_more =
    let front : take p.head_len (head ++ body) ≡ take p.head_len head = take_at head body p.head_len long ∙ sym (take_all p.head_len head (omega (arith, long))) in
    let rest : drop p.head_len (head ++ body) ≡ body = drop_at head body p.head_len long in
    rw (front, rest, none, no_more) refl

-- Some bytes are a message whose body came in pieces, all of which were taken but the last; that is answered. Then its request
-- is answered in pieces.
pub whole-step : (m : ℕ) (limits : RequestLimits) (bytes : List ℕ) (p : Layout) (head gone last left : List ℕ) (before answered : List Answering) (now : ℕ) (reply : Reply)
    → BeginsHead limits bytes p (head ++ ((gone ++ last) ++ left)) → length head ≡ p.head_len → length gone + length last ≡ p.body_len → AreGiven (request_at p head) p.body_len 0 answered gone → AreLong m answered
    → IsNotedBy m last before (request_at p (head ++ (gone ++ last))) now (reply_to_all (request_at p head) (behind_pieces (request_at p head) answered) reply)
    ((before ++ answered) ++ answering (piece_of (behind_pieces (request_at p head) answered) p.body_len (length gone) last) now reply ∷ [])
whole-step m limits bytes p head gone last left before answered now reply begins long all given sized =
    subst (λ request. IsNotedBy m last before request now (reply_to_all (request_at p head) (behind_pieces (request_at p head) answered) reply) ((before ++ answered) ++ answering (piece_of (behind_pieces (request_at p head) answered) p.body_len (length gone) last) now reply ∷ []))
    (sym (request-whole p head (gone ++ last) long begins.shows.given begins.shows.more)) (answered-in_pieces m (request_at p head) p.body_len now before answered gone last reply given all sized)

-- and it is what the bytes begin with, whatever follows them
pub whole-message : (limits : RequestLimits) (bytes : List ℕ) (p : Layout) (head gone last left : List ℕ) → BeginsHead limits bytes p (head ++ ((gone ++ last) ++ left)) → length head ≡ p.head_len → length gone + length last ≡ p.body_len
    → (rest : List ℕ) → IsNextMessage limits (bytes ++ rest) (message (request_at p (head ++ (gone ++ last))) p.framing p.is_waiting (left ++ rest))
whole-message limits bytes p head gone last left begins long all =
    IsNextMessage-message limits bytes p held begins ahead inside (sym (take_at lent left (p.head_len + p.body_len) count) ∙ ap (take (p.head_len + p.body_len)) joined)
    (sym (drop_at lent left (p.head_len + p.body_len) count) ∙ ap (drop (p.head_len + p.body_len)) joined)
  where
    held : List ℕ
    held = head ++ ((gone ++ last) ++ left)

    lent : List ℕ
    lent = head ++ (gone ++ last)

    ahead : Ahead
    ahead = record { lent = lent; held = left; ended = false; room = 0 }

    joined : lent ++ left ≡ held
    joined = append_assoc head (gone ++ last) left

    count : length lent ≡ p.head_len + p.body_len
    count = omega (arith, length-append head (gone ++ last), length-append gone last, long, all)

    inside : p.head_len + p.body_len ≤ length held
    inside = omega (arith, sym (ap length joined), length-append lent left, count)

pub pieces_are_a_turn : PiecesAreATurn
pieces_are_a_turn limits now bytes p head gone last left before answered reply begins long all stays given rest = record {
  request = request_at p (head ++ (gone ++ last));
  framing = p.framing;
  waiting = p.is_waiting;
  reply = reply_to_all (request_at p head) (behind_pieces (request_at p head) answered) reply;
  next_message = whole-message limits bytes p head gone last left begins long all rest;
  stays = stays;
  step = (whole-step 0 limits bytes p head gone last left before answered now reply begins long all given (any-long answered)).0;
  wrote = refl;
}
