-- How far a connection has come, after each of its calls.
use Rattle.std.proofs.Common.{◌≡◌, ◌≢◌, ◌≤◌, ◌↔◌, false, IfSome, ◌+◌, ◌∷◌, ◌++◌, ℕ, Bool, true, List, [], length, Option, Some, None, Result, Ok, Err, refl, ap, ◌∙◌, ◌<◌, sym, subst, arith, length-append}
use Rattle.http_wire.specs.Incoming.{FramedRequest}
use Rattle.std.specs.Prelude.{if◌then◌else◌}
use Rattle.http_wire.specs.RequestLimits.{AreSmall, AreWithin}
use Rattle.http_wire.specs.ConnectionCalls.{Takes}
use Rattle.http_wire.specs.Layout.{framed_at}
use Rattle.http_wire.specs.OnConnection.{HasNoMessage, StandsIn, at_start, body_in, is_looking, owed_in, phase_after, unless_pending, wanted_in}
use Rattle.http_wire.specs.History.{HasHistory, History}
use Rattle.http_wire.specs.ReadOnWire.{TellsEnd, ahead_limit, read_limit}
use Rattle.http_wire.specs.declared.connection.Wants.TheVariants as wants
use Rattle.http_wire.specs.declared.conversation.Ended.{Ended}
use Rattle.http_wire.specs.declared.fault.WireFault.{WireFault}
use Rattle.http_wire.specs.declared.phase.Phase.{Phase}
use Rattle.http_wire.specs.declared.phase.Phase.TheVariants.{Looking, Waiting, Owing, Piece, Over, Stopped}
use Rattle.http_wire.specs.declared.read.pieces.PiecedBody.{PiecedBody}
use Rattle.http_wire.specs.declared.read.layout.Layout.{Layout}
use Rattle.http_wire.specs.declared.read.stage.Stage.{Stage}
use Rattle.http_wire.specs.inside.Ahead.{Ahead}
use Rattle.http_wire.specs.inside.Phases.{Gathers, map_phase, lacking, IsConnection, IsPhase}
use Rattle.http_wire.specs.inside.Sending.{OnOutbox}
use Rattle.http_wire.proofs.HistoryLemmas.{History-kept, History-took}
use Rattle.http_wire.proofs.StageLemmas.{Standing-few, Standing-kept, Standing-more, Standing-unfinished, Wants-unended}
use Rattle.http_wire.specs.declared.request_limits.RequestLimits.{RequestLimits}

-- the start of a message may stand over any read buffer
pub IsConnection-start : (a : Ahead) (p : Phase Layout) (limits : RequestLimits) (piece : Option ℕ) → AreSmall limits → IfSome piece (λ n. 0 < n) → p ≡ at_start → IsConnection a p limits piece
IsConnection-start a p limits piece size some is = record {
  size = size;
  some = some;
  phase = subst (IsPhase a) (sym is) (omega arith, omega arith);
  body = subst (λ p. IfSome (body_in p) (λ b. piece ≡ Some b.piece)) (sym is) tt;
  gathered = subst (Gathers piece a) (sym is) tt;
}

-- and so may what follows a turn
pub IsConnection-after : (a : Ahead) (p : Phase Layout) (limits : RequestLimits) (piece : Option ℕ) (turn : Result (Option Ended) WireFault) → AreSmall limits → IfSome piece (λ n. 0 < n) → p ≡ phase_after turn → IsConnection a p limits piece
IsConnection-after a p limits piece (Ok None) size some is = IsConnection-start a p limits piece size some is
IsConnection-after a p limits piece (Ok (Some e)) size some is = record {
  size = size;
  some = some;
  phase = subst (IsPhase a) (sym is) tt;
  body = subst (λ p. IfSome (body_in p) (λ b. piece ≡ Some b.piece)) (sym is) tt;
  gathered = subst (Gathers piece a) (sym is) tt;
}
IsConnection-after a p limits piece (Err fault) size some is = record {
  size = size;
  some = some;
  phase = subst (IsPhase a) (sym is) tt;
  body = subst (λ p. IfSome (body_in p) (λ b. piece ≡ Some b.piece)) (sym is) tt;
  gathered = subst (Gathers piece a) (sym is) tt;
}

-- it tells of no message
pub map-after : (f : Layout → FramedRequest) (p : Phase Layout) (turn : Result (Option Ended) WireFault) → p ≡ phase_after turn → map_phase f p ≡ phase_after turn
map-after f p (Ok None) is = subst (λ q. map_phase f q ≡ at_start) (sym is) refl
map-after f p (Ok (Some e)) is = subst (λ q. map_phase f q ≡ Over (Ok e)) (sym is) refl
map-after f p (Err fault) is = subst (λ q. map_phase f q ≡ Over (Err fault)) (sym is) refl

-- a body that is taken in pieces is the same, whatever is told of messages
pub same-body : (f : Layout → FramedRequest) (p : Phase Layout) → body_in (map_phase f p) ≡ body_in p
same-body f (Looking s) = refl
same-body f (Waiting s) = refl
same-body f (Owing i) = refl
same-body f (Piece b part) = refl
same-body f (Over r) = refl
same-body f (Stopped r) = refl

-- where there are no pieces, no body is taken in them
pub gathers : (f : Layout → FramedRequest) (p : Phase Layout) (piece : Option ℕ) → IfSome (body_in p) (λ b. piece ≡ Some b.piece) → piece ≡ None → body_in (map_phase f p) ≡ None
gathers f p piece h none = same-body f p ∙ go (body_in p) h
  where
    go : (body : Option PiecedBody) → IfSome body (λ b. piece ≡ Some b.piece) → body ≡ None
    go None h = refl
    go (Some b) h = absurd (clash (sym none ∙ h))
      where
        clash : {n : ℕ} → None ≡ Some n → ⊥
        clash e = absurd cc

-- so many bytes came as what is held was lengthened by
pub came-len : (old got new : List ℕ) (n : ℕ) → new ≡ old ++ got → length new ≡ length old + n → length got ≡ n
came-len old got new n is len = omega (arith, len, ap length is, length-append old got)

-- none came where none were counted
none-of : (got : List ℕ) (n : ℕ) → length got ≡ n → n ≡ 0 → got ≡ []
none-of [] n len zero = refl
none-of (b ∷ got) n len zero = absurd (omega (arith, len, zero))

pub none-came : (old got new : List ℕ) (n : ℕ) (ended : Bool) → new ≡ old ++ got → length new ≡ length old + n → ((n ≡ 0) ↔ (ended ≡ true)) → (got ≡ []) ↔ (ended ≡ true)
none-came old got new n ended is len ends =
    let same = came-len old got new n is len in
    ((λ none. ends.0 (sym same ∙ ap length none)), (λ e. none-of got n same (ends.1 e)))

-- one read at a message for which more is needed
pub Takes-read : (got : List ℕ) (f : Layout → FramedRequest) (p : Phase Layout) (s : Stage) (old new : Ahead) (o : OnOutbox) (limits : RequestLimits) (piece : Option ℕ) → p ≡ Waiting s → IsPhase old p
    → new.held ≡ old.held ++ got → ((got ≡ []) ↔ (new.ended ≡ true))
    → Takes got (record { read_buffer = old; phase = map_phase f p; write_buffer = o; limits = limits; piece = piece }) (record { read_buffer = new; phase = Looking s; write_buffer = o; limits = limits; piece = piece })
Takes-read got f p s old new o limits piece is at held ended =
    subst (λ q. Takes got (record { read_buffer = old; phase = map_phase f q; write_buffer = o; limits = limits; piece = piece }) (record { read_buffer = new; phase = Looking s; write_buffer = o; limits = limits; piece = piece })) (sym is)
    (record {
      stands = λ bytes said h. Standing-more limits [] bytes got said old new s h (subst (IsPhase old) is at).0 held;
      held = held;
      ended = ended;
      looks = refl;
      history = λ q h. History-took q got (record { read_buffer = old; phase = Waiting s; write_buffer = o; limits = limits; piece = piece }) s new held (subst (IsPhase old) is at).0 h;
      write_buffer = refl;
      limits = refl;
      piece = refl;
    })

-- what one read brings of a message that needs more stays within the limit
pub Reads-few : (f : Layout → FramedRequest) (p : Phase Layout) (s : Stage) (limits : RequestLimits) (most n : ℕ) (a : Ahead) → AreWithin limits most → p ≡ Waiting s → IsPhase a p → n ≤ ahead_limit + lacking a p
    → (bytes said : List ℕ) → StandsIn limits bytes said a (map_phase f p) → length bytes + n ≤ read_limit most
Reads-few f (Looking t) s limits most n a within is at few bytes said h = absurd cc
Reads-few f (Waiting t) s limits most n a within is at few bytes said h = omega (arith, few, Standing-few limits most bytes said a t within h at.0 at.1)
Reads-few f (Owing i) s limits most n a within is at few bytes said h = absurd cc
Reads-few f (Piece b part) s limits most n a within is at few bytes said h = absurd cc
Reads-few f (Over r) s limits most n a within is at few bytes said h = absurd cc
Reads-few f (Stopped r) s limits most n a within is at few bytes said h = absurd cc

-- some bytes behind others are some
pub some-behind : (old new : List ℕ) (b : ℕ) (rest : List ℕ) → new ≡ old ++ b ∷ rest → new ≢ []
some-behind [] new b rest is none = absurd cc
some-behind (x ∷ old) new b rest is none = absurd cc

-- what is no look at a message is none
pub not-looking : (p : Phase Layout) → ((s : Stage) → p ≡ Looking s → ⊥) → is_looking p ≡ false
not-looking (Looking s) other = absurd (other s refl)
not-looking (Waiting s) other = refl
not-looking (Owing i) other = refl
not-looking (Piece b part) other = refl
not-looking (Over r) other = refl
not-looking (Stopped r) other = refl

-- nor does it tell of one that is, whatever is told of messages
pub same-looking : (f : Layout → FramedRequest) (p : Phase Layout) → is_looking (map_phase f p) ≡ is_looking p
same-looking f (Looking s) = refl
same-looking f (Waiting s) = refl
same-looking f (Owing i) = refl
same-looking f (Piece b part) = refl
same-looking f (Over r) = refl
same-looking f (Stopped r) = refl

-- nothing is read where an answer is owed, or all is over
owes-none : (room : Bool) → (if room then wants.Answer else wants.Write) ≡ wants.Read → ⊥
owes-none true is = absurd cc
owes-none false is = absurd cc

over-none : (pending : List ℕ) → unless_pending pending wants.Nothing ≡ wants.Read → ⊥
over-none [] is = absurd cc
over-none (b ∷ rest) is = absurd cc

-- a connection wants to read only where more of a message is needed
pub reads-waiting : (o : OnOutbox) (p : Phase FramedRequest) → wanted_in o p ≡ wants.Read → (s : Stage) × (p ≡ Waiting s)
reads-waiting o (Looking s) reads = absurd cc
reads-waiting o (Waiting s) reads = (s, refl)
reads-waiting o (Owing i) reads = absurd (owes-none o.has_room reads)
reads-waiting o (Piece b part) reads = absurd (owes-none o.has_room reads)
reads-waiting o (Over r) reads = absurd (over-none o.pending reads)
reads-waiting o (Stopped r) reads = absurd (over-none o.pending reads)

-- whatever is told of messages
waits-anyway : (f : Layout → FramedRequest) (p : Phase Layout) (s : Stage) → map_phase f p ≡ Waiting s → p ≡ Waiting s
waits-anyway f (Looking t) s is = absurd cc
waits-anyway f (Waiting t) s is = ap Waiting cc
waits-anyway f (Owing i) s is = absurd cc
waits-anyway f (Piece b part) s is = absurd cc
waits-anyway f (Over r) s is = absurd cc
waits-anyway f (Stopped r) s is = absurd cc

-- so it wants to read only before the end of the input
pub reads-unended : (f : Layout → FramedRequest) (a : Ahead) (p : Phase Layout) (o : OnOutbox) → IsPhase a p → wanted_in o (map_phase f p) ≡ wants.Read → a.ended ≡ false
reads-unended f a p o at reads =
    let waits = reads-waiting o (map_phase f p) reads in
    Wants-unended a waits.0 (subst (IsPhase a) (waits-anyway f p waits.0 waits.1) at).1

-- and only where no whole message is held
pub reads-unfinished : (f : Layout → FramedRequest) (a : Ahead) (p : Phase Layout) (o : OnOutbox) (limits : RequestLimits) (bytes said : List ℕ) → IsPhase a p → wanted_in o (map_phase f p) ≡ wants.Read
    → StandsIn limits bytes said a (map_phase f p) → HasNoMessage limits bytes
reads-unfinished f a p o limits bytes said at reads stands =
    let waits = reads-waiting o (map_phase f p) reads in
    let phase = subst (IsPhase a) (waits-anyway f p waits.0 waits.1) at in
    Standing-unfinished limits bytes said a waits.0 (subst (StandsIn limits bytes said a) waits.1 stands) phase.0 phase.1

-- what stands while it wants to read stands as well where nothing is lent
pub StandsIn-unlent : (limits : RequestLimits) (bytes said : List ℕ) (a : Ahead) (o : OnOutbox) (p : Phase FramedRequest) → wanted_in o p ≡ wants.Read → StandsIn limits bytes said a p → StandsIn limits bytes said (record a { lent = [] }) p
StandsIn-unlent limits bytes said a o p reads stands =
    let waits = reads-waiting o p reads in
    subst (StandsIn limits bytes said (record a { lent = [] })) (sym waits.1) (Standing-kept limits bytes said a (record a { lent = [] }) waits.0 (subst (StandsIn limits bytes said a) waits.1 stands) refl)

-- a read that brought nothing leaves the history as it is
pub History-unread : (p : History) (q : Phase Layout) (f g : Layout → FramedRequest) (old new : Ahead) (o : OnOutbox) (limits : RequestLimits) (piece : Option ℕ) → wanted_in o (map_phase f q) ≡ wants.Read → new.held ≡ old.held
    → HasHistory p (record { read_buffer = old; phase = map_phase f q; write_buffer = o; limits = limits; piece = piece }) → HasHistory p (record { read_buffer = new; phase = map_phase g q; write_buffer = o; limits = limits; piece = piece })
History-unread p q f g old new o limits piece reads held history =
    let waits = reads-waiting o (map_phase f q) reads in
    let is = waits-anyway f q waits.0 waits.1 in
    subst (λ q. HasHistory p (record { read_buffer = new; phase = map_phase g q; write_buffer = o; limits = limits; piece = piece })) (sym is)
    (History-kept p (record { read_buffer = old; phase = Waiting waits.0; write_buffer = o; limits = limits; piece = piece }) waits.0 new held
    (subst (λ q. HasHistory p (record { read_buffer = old; phase = map_phase f q; write_buffer = o; limits = limits; piece = piece })) is history))

-- what was cut by the end came at the end
pub owed-tells : (a : Ahead) (p : Phase Layout) → IsPhase a p → IfSome (owed_in (map_phase (framed_at a.lent) p)) (λ i. TellsEnd a.ended (Ok i))
owed-tells a (Looking s) at = tt
owed-tells a (Waiting s) at = tt
owed-tells a (Owing i) at = at.1
owed-tells a (Piece b part) at = tt
owed-tells a (Over r) at = tt
owed-tells a (Stopped r) at = tt
