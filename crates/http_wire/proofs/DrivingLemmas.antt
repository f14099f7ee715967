-- A connection that is driven over a reader and a writer that wait.
use Rattle.std.proofs.Common.{◌≡◌, ◌≢◌, ◌⊎◌, ◌≤◌, arith, length-append, inl, inr, ◌+◌, ◌∷◌, ◌++◌, ℕ, Bool, true, false, List, [], length, take, Option, None, Ok, Err, IfSome, refl, ap, sym, subst, ◌∙◌, append-nil}
use Rattle.std.proofs.Math.Seq.{take-append-add}
use Rattle.std.specs.Prelude.{if◌then◌else◌}
use Rattle.http_wire.specs.ConnectionCalls.{BreaksTo}
use Rattle.http_wire.specs.Conversation.{continue_text}
use Rattle.http_wire.specs.Incoming.{FramedRequest, is_cut_by_fault}
use Rattle.http_wire.specs.OnConnection.{OnConnection, Stands, StandsIn, body_in, ended_in, is_looking, owed_in, unless_pending, wanted, wanted_in}
use Rattle.http_wire.specs.ReadOnWire.{BreaksMessage, TellsEnd, read_limit}
use Rattle.http_wire.specs.declared.connection.Wants.{Wants}
use Rattle.http_wire.specs.declared.connection.Wants.TheVariants as wants
use Rattle.http_wire.specs.declared.conversation.Ended.{Ended}
use Rattle.http_wire.specs.declared.fault.WireFault.{WireFault}
use Rattle.http_wire.specs.declared.fault.WireFault.TheVariants as fault
use Rattle.http_wire.specs.declared.incoming.Incoming.{Incoming}
use Rattle.http_wire.specs.declared.phase.Phase.{Phase}
use Rattle.http_wire.specs.declared.phase.Phase.TheVariants.{Looking, Waiting, Owing, Piece, Over, Stopped}
use Rattle.http_wire.specs.declared.read.stage.Stage.TheVariants.{Head, Body, Pieces}
use Rattle.http_wire.specs.inside.Ahead.{Ahead}
use Rattle.http_wire.specs.inside.Driving.{CameIn}
use Rattle.http_wire.specs.inside.Sending.{OnOutbox, empty_write_buffer}
use Rattle.http_wire.proofs.NextMessageLemmas.{IsNextMessage-waits}
use Rattle.http_wire.proofs.PhaseLemmas.{reads-waiting}
use Rattle.http_wire.proofs.PieceLemmas.{IsTaken-waits}
use Rattle.http_wire.specs.declared.request_limits.RequestLimits.{RequestLimits}

-- it does not look at a message where it wants to read
pub reads-other : (o : OnOutbox) (p : Phase FramedRequest) → wanted_in o p ≡ wants.Read → is_looking p ≡ false
reads-other o p reads = ap is_looking (reads-waiting o p reads).1

-- with what one read brought, no more bytes came than the limit
pub read-few : (most : ℕ) (held read got : List ℕ) (n : ℕ) → length got ≡ n → length (held ++ read) + n ≤ read_limit most → length (read ++ got) ≤ read_limit most
read-few most held read got n count few =
    omega (arith, count, few, length-append held read, length-append read got)

-- no answer is wanted once all is over
answers-over : (pending : List ℕ) → unless_pending pending wants.Nothing ≡ wants.Answer → ⊥
answers-over [] is = absurd cc
answers-over (b ∷ rest) is = absurd cc

-- it owes an answer where it wants one, and takes no body in pieces
answers-owing : (o : OnOutbox) (p : Phase FramedRequest) → body_in p ≡ None → wanted_in o p ≡ wants.Answer → (i : Incoming FramedRequest) × (p ≡ Owing i)
answers-owing o (Looking s) none h = absurd cc
answers-owing o (Waiting s) none h = absurd (reads o.pending h)
  where
    reads : (pending : List ℕ) → unless_pending pending wants.Read ≡ wants.Answer → ⊥
    reads [] is = absurd cc
    reads (b ∷ rest) is = absurd cc
answers-owing o (Owing i) none h = (i, refl)
answers-owing o (Piece b part) none h = absurd cc
answers-owing o (Over r) none h = absurd (answers-over o.pending h)
answers-owing o (Stopped r) none h = absurd (answers-over o.pending h)

-- something is wanted where an answer is owed
owes-some : (room : Bool) → (if room then wants.Answer else wants.Write) ≡ wants.Nothing → ⊥
owes-some true is = absurd cc
owes-some false is = absurd cc

-- nothing stands over the bytes of a conversation that is over
stands-unended : (limits : RequestLimits) (bytes said : List ℕ) (a : Ahead) (o : OnOutbox) (p : Phase FramedRequest) → StandsIn limits bytes said a p → wanted_in o p ≡ wants.Nothing → ⊥
stands-unended limits bytes said a o (Looking s) h is = absurd cc
stands-unended limits bytes said a o (Waiting s) h is = reads o.pending is
  where
    reads : (pending : List ℕ) → unless_pending pending wants.Read ≡ wants.Nothing → ⊥
    reads [] is = absurd cc
    reads (b ∷ rest) is = absurd cc
stands-unended limits bytes said a o (Owing i) h is = owes-some o.has_room is
stands-unended limits bytes said a o (Piece b part) h is = owes-some o.has_room is
stands-unended limits bytes said a o (Over r) h is = absurd h
stands-unended limits bytes said a o (Stopped r) h is = absurd h

-- with nothing pending, it wants to write only where it looks
empty-writes : (p : Phase FramedRequest) → wanted_in empty_write_buffer p ≡ wants.Write → is_looking p ≡ true
empty-writes (Looking s) h = refl
empty-writes (Waiting s) h = absurd cc
empty-writes (Owing i) h = absurd cc
empty-writes (Piece b part) h = absurd cc
empty-writes (Over r) h = absurd cc
empty-writes (Stopped r) h = absurd cc

-- where nothing was pending, it wants to write only what was put by a look
pub writes-looking : (o : OnOutbox) (c : OnConnection) → o ≡ empty_write_buffer → (is_looking c.phase ≡ false → c.write_buffer ≡ o) → wanted c ≡ wants.Write → is_looking c.phase ≡ true
writes-looking o c empty same writes = go (is_looking c.phase) refl
  where
    go : (b : Bool) → is_looking c.phase ≡ b → is_looking c.phase ≡ true
    go true is = is
    go false is = empty-writes c.phase (subst (λ (o : OnOutbox). wanted_in o c.phase ≡ wants.Write) (same is ∙ empty) writes)

-- a look that does not go on put nothing
settled : (o : OnOutbox) (c : OnConnection) (bytes said : List ℕ) → o ≡ empty_write_buffer → (is_looking c.phase ≡ false → c.write_buffer ≡ o) → is_looking c.phase ≡ false
    → (put : List ℕ) × (c.write_buffer.pending ≡ o.pending ++ put) × Stands bytes (said ++ put) c → Stands bytes said c
settled o c bytes said empty same other put =
    let before : o.pending ≡ [] = ap (λ (o : OnOutbox). o.pending) empty in
    let after : c.write_buffer.pending ≡ [] = ap (λ (o : OnOutbox). o.pending) (same other ∙ empty) in
    let none : put.0 ≡ [] = sym (put.1 ∙ ap (λ l. l ++ put.0) before) ∙ after in
    subst (λ t. Stands bytes t c) (ap (λ l. said ++ l) none ∙ append-nil said) put.2

-- so it stands as it did where it wants to read
pub settled-reads : (o : OnOutbox) (c : OnConnection) (bytes said : List ℕ) → o ≡ empty_write_buffer → (is_looking c.phase ≡ false → c.write_buffer ≡ o) → wanted c ≡ wants.Read
    → (put : List ℕ) × (c.write_buffer.pending ≡ o.pending ++ put) × Stands bytes (said ++ put) c → Stands bytes said c
settled-reads o c bytes said empty same reads = settled o c bytes said empty same (reads-other c.write_buffer c.phase reads)

-- what is owed an answer came in
CameIn-owing : (bytes said : List ℕ) (broke : Bool) (c : OnConnection) (i : Incoming FramedRequest) → c.phase ≡ Owing i → Stands bytes said c
    → IfSome (owed_in c.phase) (λ i. TellsEnd c.read_buffer.ended (Ok i)) → broke ≡ is_cut_by_fault i → CameIn bytes said broke c
CameIn-owing bytes said broke c i is stands tells why = record {
  incoming = i;
  owed = ap owed_in is;
  comes = subst (StandsIn c.limits bytes said c.read_buffer) is stands;
  tells_end = subst (λ p. IfSome (owed_in p) (λ i. TellsEnd c.read_buffer.ended (Ok i))) is tells;
  why = why;
}

-- what is wanted an answer for came in, and no failed read cut it
pub CameIn-wanted : (bytes said : List ℕ) (broke : Bool) (o : OnOutbox) (c : OnConnection) (w : Wants) → o ≡ empty_write_buffer → (is_looking c.phase ≡ false → c.write_buffer ≡ o) → w ≡ wanted c → (w ≡ wants.Answer) ⊎ (w ≡ wants.Nothing) → body_in c.phase ≡ None
    → (put : List ℕ) × (c.write_buffer.pending ≡ o.pending ++ put) × Stands bytes (said ++ put) c → IfSome (owed_in c.phase) (λ i. TellsEnd c.read_buffer.ended (Ok i))
    → IfSome (owed_in c.phase) (λ i. is_cut_by_fault i ≡ false) → broke ≡ false → CameIn bytes said broke c
CameIn-wanted bytes said broke o c w empty same is (inr over) none put tells whole alive = absurd (stands-unended c.limits bytes (said ++ put.0) c.read_buffer c.write_buffer c.phase put.2 (sym is ∙ over))
CameIn-wanted bytes said broke o c w empty same is (inl answers) none put tells whole alive =
    let owing = answers-owing c.write_buffer c.phase none (sym is ∙ answers) in
    let other : is_looking c.phase ≡ false = ap is_looking owing.1 in
    let unbroken = subst (λ p. IfSome (owed_in p) (λ i. is_cut_by_fault i ≡ false)) owing.1 whole in
    CameIn-owing bytes said broke c owing.0 owing.1 (settled o c bytes said empty same other put) tells (alive ∙ sym unbroken)

-- after a read that failed, what is owed an answer is what that cut
pub CameIn-broken : (limits : RequestLimits) (bytes said : List ℕ) (broke : Bool) (c : OnConnection) (x : Option Ended) → BreaksTo limits bytes said c.read_buffer c.phase → limits ≡ c.limits → ended_in c.phase ≡ Ok x → body_in c.phase ≡ None
    → IfSome (owed_in c.phase) (λ i. TellsEnd c.read_buffer.ended (Ok i)) → broke ≡ true → CameIn bytes said broke c
CameIn-broken limits bytes said broke c x breaks size ok gathered tells broken = go c.phase refl gathered breaks ok
  where
    go : (p : Phase FramedRequest) → c.phase ≡ p → body_in p ≡ None → BreaksTo limits bytes said c.read_buffer p → ended_in p ≡ Ok x → CameIn bytes said broke c
    go (Looking s) is none h ok = absurd h
    go (Waiting s) is none h ok = absurd h
    go (Owing i) is none h ok = CameIn-owing bytes said broke c i is (subst (StandsIn c.limits bytes said c.read_buffer) (sym is) (subst (λ m. StandsIn m bytes said c.read_buffer (Owing i)) size h.0)) tells (broken ∙ sym h.1)
    go (Piece b part) is none h ok = absurd cc
    go (Over (Ok e)) is none h ok = absurd h
    go (Over (Err f)) is none h ok = absurd cc
    go (Stopped r) is none h ok = absurd h

-- and where nothing is, it breaks the reading off
pub Breaks-over : (limits : RequestLimits) (bytes said : List ℕ) (a : Ahead) (p : Phase FramedRequest) (f : WireFault) → BreaksTo limits bytes said a p → Err f ≡ ended_in p
    → BreaksMessage limits (record { input = bytes; text = said }) f × (f ≡ fault.Read)
Breaks-over limits bytes said a (Looking s) f h is = absurd h
Breaks-over limits bytes said a (Waiting s) f h is = absurd h
Breaks-over limits bytes said a (Owing i) f h is = absurd cc
Breaks-over limits bytes said a (Piece b part) f h is = absurd cc
Breaks-over limits bytes said a (Over (Ok e)) f h is = absurd h
Breaks-over limits bytes said a (Over (Err g)) f h is =
    let same : f ≡ g = cc in
    subst (λ f. BreaksMessage limits (record { input = bytes; text = said }) f × (f ≡ fault.Read)) (sym same) h
Breaks-over limits bytes said a (Stopped r) f h is = absurd h

-- something was put only where the client waits for `100 Continue`
waits-told : (said put : List ℕ) (w : Bool) → put ≢ [] → said ++ put ≡ continue_text w → w ≡ true
waits-told said put true some e = refl
waits-told [] put false some e = absurd (some e)
waits-told (x ∷ said) put false some e = absurd cc

-- and a prefix of that was written, where its write failed
told-in-part : (said put : List ℕ) (n : ℕ) (w : Bool) → w ≡ true → said ++ put ≡ continue_text w → (k : ℕ) × (said ++ take n put ≡ take k (continue_text true))
told-in-part said put n w waits whole = (length said + n, sym (take-append-add said put n) ∙ ap (take (length said + n)) (whole ∙ ap continue_text waits))

-- `100 Continue` was put, and its write failed after a prefix of it
pub Breaks-continue : (limits : RequestLimits) (bytes said put : List ℕ) (n : ℕ) (a : Ahead) (p : Phase FramedRequest) → StandsIn limits bytes (said ++ put) a p → is_looking p ≡ true → put ≢ []
    → BreaksMessage limits (record { input = bytes; text = said ++ take n put }) fault.Write
Breaks-continue limits bytes said put n a (Looking (Head s)) h looks some = absurd (some (nil-right said put h.0))
  where
    nil-right : (xs ys : List ℕ) → xs ++ ys ≡ [] → ys ≡ []
    nil-right [] ys e = e
    nil-right (x ∷ xs) ys e = absurd cc
Breaks-continue limits bytes said put n a (Looking (Body p)) h looks some =
    let waits = waits-told said put p.is_waiting some h.0 in
    let next_message = IsNextMessage-waits limits bytes p a.held h.1 waits in
    (next_message.0, next_message.1, next_message.2, told-in-part said put n p.is_waiting waits h.0)
Breaks-continue limits bytes said put n a (Looking (Pieces b)) h looks some =
    let waits = waits-told said put b.layout.is_waiting some h.1.waits in
    let next_message = IsTaken-waits limits bytes (said ++ put) h.0 b a.held h.1 waits in
    (next_message.0, next_message.1, next_message.2, told-in-part said put n b.layout.is_waiting waits h.1.waits)
Breaks-continue limits bytes said put n a (Waiting s) h looks some = absurd cc
Breaks-continue limits bytes said put n a (Owing i) h looks some = absurd cc
Breaks-continue limits bytes said put n a (Piece b part) h looks some = absurd cc
Breaks-continue limits bytes said put n a (Over r) h looks some = absurd cc
Breaks-continue limits bytes said put n a (Stopped r) h looks some = absurd cc
