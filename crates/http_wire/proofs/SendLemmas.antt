-- What writes of some of what is pending do, one after another.
use Rattle.std.proofs.Common.{refl, ◌≡◌, ◌≢◌, ◌∷◌, ◌≤◌, ◌+◌, ◌-◌, ◌++◌, ℕ, Bool, true, false, true≢false, List, [], Option, Some, None, Result, Err, length, take, drop, sym, ap, subst, ◌∙◌, append-nil, append_assoc, arith, length-append}
use Rattle.std.proofs.Math.Seq.{drop-append-add, take-append_seam}
use Rattle.std.proofs.lemmas.Bool.{leb-true}
use Rattle.std.proofs.lemmas.List.{drop-append-le, length-drop, nil_from_length, take-append-drop}
use Rattle.std.specs.Io.KnownBytes.{Appends}
use Rattle.http_wire.specs.Writes.{Writes}
use Rattle.http_wire.specs.inside.Sending.{IsCleared, OnOutbox, TakesSome, empty_write_buffer, following, write_buffer_of}
use Rattle.http_wire.specs.declared.fault.WireFault.{WireFault}
use Rattle.http_wire.proofs.AheadLemmas.{Appends-more}

-- what is pending of two pieces once the first was sent
pub drop-past : (at n : ℕ) (first rest : List ℕ) → length first - at ≤ n → drop n (drop at first ++ rest) ≡ drop (n - (length first - at)) rest
drop-past at n first rest le =
    let len = length-drop at first in
    let same : n ≡ length (drop at first) + (n - (length first - at)) = omega (arith, len, le) in
    ap (λ k. drop k (drop at first ++ rest)) same ∙ drop-append-add (drop at first) rest (n - (length first - at))

-- of two pieces without a byte, the second has none
nil-right : (first rest : List ℕ) → first ++ rest ≡ [] → rest ≡ []
nil-right [] rest h = h
nil-right (b ∷ first) rest h = absurd cc

-- nor has the first
pub nil-left : (first rest : List ℕ) → first ++ rest ≡ [] → first ≡ []
nil-left [] rest h = refl
nil-left (b ∷ first) rest h = absurd cc

-- where nothing is pending, there is nothing in a write buffer
pub cleared-empty : (page : List ℕ) (sent : ℕ) (tail : Option (List ℕ)) → IsCleared page sent tail → drop sent page ++ following tail ≡ [] → write_buffer_of page sent tail ≡ empty_write_buffer
cleared-empty page sent (Some bytes) c none = absurd (c.unsent (nil-right (drop sent page) bytes none))
cleared-empty page sent None c none =
    let left : length page - sent ≡ 0 = sym (length-drop sent page) ∙ ap length (sym (append-nil (drop sent page)) ∙ none) in
    let unsent : sent ≡ 0 = c.emptied (omega (arith, left)) in
    let blank : page ≡ [] = nil_from_length page (omega (arith, left, unsent)) in
    rw (unsent, blank) refl

-- so where there is no room, something is pending
pub pending-unless-room : (page : List ℕ) (sent : ℕ) (tail : Option (List ℕ)) (o : OnOutbox) → IsCleared page sent tail → write_buffer_of page sent tail ≡ o → o.has_room ≡ false → o.pending ≢ []
pending-unless-room page sent tail o cleared is full none =
    let empty = cleared-empty page sent tail cleared (ap (λ (o : OnOutbox). o.pending) is ∙ none) in
    true≢false (sym (ap (λ (o : OnOutbox). o.has_room) empty) ∙ ap (λ (o : OnOutbox). o.has_room) is ∙ full)

-- where there is room, nothing follows the page, and it is short
pub room-known : (page : List ℕ) (sent : ℕ) (tail : Option (List ℕ)) (o : OnOutbox) → write_buffer_of page sent tail ≡ o → o.has_room ≡ true → (tail ≡ None) × (length page ≤ 8192)
room-known page sent (Some bytes) o is room = absurd cc
room-known page sent None o is room = (refl, leb-true (length page) 8192 (ap (λ (o : OnOutbox). o.has_room) is ∙ room))

-- what was put behind a page that nothing follows is behind what was pending
pub put-behind : (page next text : List ℕ) (sent : ℕ) (tail last : Option (List ℕ)) (o : OnOutbox) → write_buffer_of page sent tail ≡ o → o.has_room ≡ true → sent ≤ length page → length page ≤ length next
    → next ++ following last ≡ page ++ text → drop sent next ++ following last ≡ o.pending ++ text
put-behind page next text sent tail last o is room within more parts =
    let none = (room-known page sent tail o is room).0 in
    let pending : drop sent page ≡ o.pending = sym (append-nil (drop sent page)) ∙ ap (λ t. drop sent page ++ following t) (sym none) ∙ ap (λ (o : OnOutbox). o.pending) is in
    sym (drop-append-le sent next (following last) (omega (arith, within, more))) ∙ ap (λ l. drop sent l) parts ∙ drop-append-le sent page text within ∙ ap (λ l. l ++ text) pending

-- more of what is pending was written
pub sent-more : (all text pending : List ℕ) (n : ℕ) → all ≡ text ++ pending → all ≡ (text ++ take n pending) ++ drop n pending
sent-more all text pending n is =
    is ∙ ap (λ l. text ++ l) (sym (take-append-drop n pending)) ∙ sym (append_assoc text (take n pending) (drop n pending))

-- a write failed after a prefix of a text was written
pub Writes-stopped : {T : Type 0} (r : Result T WireFault) (e given : WireFault) (x y z : Option (List ℕ)) (failed : Bool) (all text rest bytes : List ℕ) → r ≡ Err e → e ≡ given
    → all ≡ text ++ rest → Appends x y text → TakesSome y z failed bytes (Err given) → Writes x z failed all r
Writes-stopped r e given x y z failed all text rest bytes is same parts wrote w =
    subst (λ (s : Result _ WireFault). Writes x z failed all s) (sym is) (record {
      all = tt;
      prefix = (
        length text,
        rw (parts, length-append text rest) (omega arith),
        rw (parts, take-append_seam text rest, ← append-nil text) (Appends-more x y z text [] wrote w.none),
      );
      failed = w.failed;
      fault = same ∙ w.fault;
    })

-- something was pending at the start where something is left
pub pending-some : (all text pending : List ℕ) → all ≡ text ++ pending → pending ≢ [] → all ≢ []
pending-some all text pending is some none = some (nil-right text pending (sym is ∙ none))
