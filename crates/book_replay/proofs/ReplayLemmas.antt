-- Records of events that happened to a book, and what they make of it.
use Rattle.std.proofs.Common.{◌≡◌, ◌≢◌, ℕ, ◌+◌, ◌≤◌, Bool, true, false, ◌&&◌, List, [], ◌∷◌, length, Option, Some, None, Result, Ok, Err, inl, inr, refl, sym, ap, subst, ◌∙◌}
use Rattle.std.specs.Prelude.{is_ok, option_and_then, option_map}
use Rattle.std.specs.List.{AllByRecursion}
use Rattle.std.proofs.lemmas.Bool.{and_from, and_parts, and_right, cond-false, cond-true}
use Rattle.journal_records.specs.Reading.{record_at}
use Rattle.journal_records.specs.Records.{AreBytes, FitsChange}
use Rattle.journal_records.proofs.Again.{record_again}
use Rattle.journal_records.proofs.Spelled.{record_spelled}
use Rattle.upload_book.specs.Change.{MayLackFor, book_after_change, change_answer, change_lacking}
use Rattle.upload_book.specs.declared.append.Refused.{Refused}
use Rattle.upload_book.specs.declared.change.Change.{Change}
use Rattle.upload_book.specs.declared.change.Change.TheVariants as change
use Rattle.upload_book.specs.declared.change.Outcome.{Outcome}
use Rattle.upload_book.specs.declared.refusal.Refusal.TheVariants as refusal
use Rattle.upload_book.specs.Events.{ChangeEvent, book_after_all, book_after_event}
use Rattle.upload_book.specs.PlainBook.{PlainBook}
use Rattle.upload_book.specs.Refusal.{IsAnswer}
use Rattle.book_replay.specs.Laws.{IsReplay}
use Rattle.book_replay.specs.Made.{can_be_made}
use Rattle.book_replay.specs.Replay.{AllHappen, Happens, accepts, after_accepted, after_record, event_in, goes_on, record_of, records_of, replayed}
use Rattle.book_replay.proofs.MadeLemmas.{made-decides}

abbrev pub event : Change → ℕ → ChangeEvent
event change now = record { change = change; now = now }

-- ---- one event

accepted : (b : PlainBook) (e : ChangeEvent) → can_be_made (length b.settings.tenants) e.change ≡ true → is_ok (change_answer b e.change e.now) ≡ true → after_accepted b e ≡ Some (book_after_event b e)
accepted b e made answered = cond-true (accepts b e) (Some (book_after_event b e)) None (and_from _ _ made answered)

refused : (b : PlainBook) (e : ChangeEvent) → accepts b e ≡ false → after_accepted b e ≡ None
refused b e not = cond-false (accepts b e) (Some (book_after_event b e)) None not

-- a change that was prepared and made, under other names
pub after_accepted-made : (b middle after : PlainBook) (change prepared : Change) (now moment : ℕ) (outcome : Outcome) → can_be_made (length b.settings.tenants) change ≡ true → prepared ≡ change → moment ≡ now → middle ≡ b
    → change_answer middle prepared moment ≡ Ok outcome → after ≡ book_after_change middle prepared moment → after_accepted b (event change now) ≡ Some after
after_accepted-made b middle after change prepared now moment outcome made is at same answer left =
    let answered : change_answer b change now ≡ Ok outcome = rw (same, is, at) at answer in
    let after_is : after ≡ book_after_change b change now = rw (same, is, at) at left in
    accepted b (event change now) made (ap is_ok answered) ∙ ap Some (sym after_is)

pub after_accepted-unasked : (b : PlainBook) (change : Change) (now : ℕ) → can_be_made (length b.settings.tenants) change ≡ false → after_accepted b (event change now) ≡ None
after_accepted-unasked b change now not = refused b (event change now) (ap (λ (t : Bool). t && is_ok (change_answer b change now)) not)

-- where memory lacks the refusal says so
lacking-memory : (b : PlainBook) (change : Change) (now : ℕ) (why : Refused) → (let lack : Result Outcome Refused = Err why in lack ≡ change_lacking b change now) → why.refusal ≡ refusal.Memory
lacking-memory b (change.Create tenant new first) now why is = cc
lacking-memory b (change.Append name chunk) now why is = cc
lacking-memory b (change.Concat tenant new) now why is = cc
lacking-memory b (change.Terminate name) now why is = cc
lacking-memory b change.Sweep now why is = cc
lacking-memory b (change.Restore restored) now why is = cc

pub after_accepted-refused : (b : PlainBook) (change : Change) (now : ℕ) (why : Refused) → IsAnswer (change_answer b change now) (MayLackFor b change now) (change_lacking b change now) (Err why) → why.refusal ≢ refusal.Memory
    → after_accepted b (event change now) ≡ None
after_accepted-refused b change now why (inl same) other = refused b (event change now) (and_right _ _ (ap is_ok (sym same)))
after_accepted-refused b change now why (inr lacks) other = absurd (other (lacking-memory b change now why lacks.1))

-- ---- records

event-again : (e : ChangeEvent) → e.now ≤ 253402300799 → FitsChange e.change → event_in (record_of e) ≡ Some e
event-again e moment fits = ap (λ (read : Option (ℕ × Change)). option_map {T = ℕ × Change} {U = ChangeEvent} (λ r. record { change = r.1; now = r.0 }) read) (record_again e.now e.change moment fits)

pub record-happens : (b : PlainBook) (e : ChangeEvent) → Happens b e → after_record b (record_of e) ≡ Some (book_after_event b e)
record-happens b e h =
    ap (λ (read : Option ChangeEvent). option_and_then (after_accepted b) read) (event-again e h.moment h.fits)
    ∙ accepted b e ((made-decides (length b.settings.tenants) e.change).1 h.asked) h.accepted

pub all-replayed : (number : ℕ) (b : PlainBook) (events : List ChangeEvent) → AllHappen b events → replayed number b (records_of events) ≡ Ok (book_after_all b events)
all-replayed number b [] happened = refl
all-replayed number b (e ∷ events) happened =
    ap (λ (next : Option PlainBook). goes_on number next (λ after. replayed (number + 1) after (records_of events))) (record-happens b e happened.0)
    ∙ all-replayed (number + 1) (book_after_event b e) events happened.1

-- the event of a record that has a book after it
record IsEventOf (b : PlainBook) (bytes : List ℕ) (next : PlainBook) : Type 0 where
  event_is : ChangeEvent
  spelled : bytes ≡ record_of event_is
  happens : Happens b event_is
  after_it : next ≡ book_after_event b event_is

accepted-event : (b : PlainBook) (bytes : List ℕ) (next : PlainBook) (change : Change) (now : ℕ) → AreBytes bytes → record_at bytes ≡ Some (now, change) → (t : Bool) → accepts b (event change now) ≡ t
    → after_accepted b (event change now) ≡ Some next → IsEventOf b bytes next
accepted-event b bytes next change now are is false not made = let none = refused b (event change now) not in absurd (cc)
accepted-event b bytes next change now are is true test made =
    let parts = and_parts _ _ test in
    let said = record_spelled bytes now change are is in
    let some = accepted b (event change now) parts.0 parts.1 in
    record {
      event_is = event change now;
      spelled = said.0;
      happens = record {
        asked = (made-decides (length b.settings.tenants) change).0 parts.0;
        accepted = parts.1;
        moment = said.1;
        fits = said.2;
      };
      after_it = some_is next (book_after_event b (event change now)) (sym made ∙ some);
    }
  where
    some_is : (x y : PlainBook) → Some x ≡ Some y → x ≡ y
    some_is x y is = cc

read-event : (b : PlainBook) (bytes : List ℕ) (next : PlainBook) → AreBytes bytes → (read : Option (ℕ × Change)) → record_at bytes ≡ read → after_record b bytes ≡ Some next → IsEventOf b bytes next
read-event b bytes next are None is made =
    let none : after_record b bytes ≡ None = ap (λ (read : Option (ℕ × Change)). option_and_then (after_accepted b) (option_map {T = ℕ × Change} {U = ChangeEvent} (λ r. record { change = r.1; now = r.0 }) read)) is in
    absurd (cc)
read-event b bytes next are (Some (now, change)) is made =
    let some : after_record b bytes ≡ after_accepted b (event change now) = ap (λ (read : Option (ℕ × Change)). option_and_then (after_accepted b) (option_map {T = ℕ × Change} {U = ChangeEvent} (λ r. record { change = r.1; now = r.0 }) read)) is in
    accepted-event b bytes next change now are is (accepts b (event change now)) refl (sym some ∙ made)

told-step : (number : ℕ) (b : PlainBook) (bytes : List ℕ) (records : List (List ℕ)) (after : PlainBook) → AreBytes bytes → ((next : PlainBook) → replayed (number + 1) next records ≡ Ok after → IsReplay next records after)
    → (x : Option PlainBook) → after_record b bytes ≡ x → goes_on number x (λ next. replayed (number + 1) next records) ≡ Ok after → IsReplay b (bytes ∷ records) after
told-step number b bytes records after are rest None is made = absurd (cc)
told-step number b bytes records after are rest (Some next) is made =
    let one = read-event b bytes next are (record_at bytes) refl is in
    let others = rest next made in
    record {
      events = one.event_is ∷ others.events;
      spelled = ap (λ (r : List ℕ). r ∷ records) one.spelled ∙ ap (λ (rs : List (List ℕ)). record_of one.event_is ∷ rs) others.spelled;
      happened = (one.happens, subst (λ (x : PlainBook). AllHappen x others.events) one.after_it others.happened);
      book = others.book ∙ ap (λ (x : PlainBook). book_after_all x others.events) one.after_it;
    }

pub replay-told : (number : ℕ) (b : PlainBook) (records : List (List ℕ)) (after : PlainBook) → AllByRecursion AreBytes records → replayed number b records ≡ Ok after → IsReplay b records after
replay-told number b [] after are made = record { events = []; spelled = refl; happened = tt; book = ok_is after b (sym made) }
  where
    ok_is : (x y : PlainBook) → (let left : Result PlainBook ℕ = Ok x in let right : Result PlainBook ℕ = Ok y in left ≡ right) → x ≡ y
    ok_is x y is = cc
replay-told number b (bytes ∷ records) after are made =
    told-step number b bytes records after are.0 (λ next m. replay-told (number + 1) next records after are.1 m) (after_record b bytes) refl made

-- ---- record by record

pub replayed-next : (number : ℕ) (b next : PlainBook) (bytes : List ℕ) (all rest : List (List ℕ)) → all ≡ bytes ∷ rest → after_record b bytes ≡ Some next → replayed number b all ≡ replayed (number + 1) next rest
replayed-next number b next bytes all rest is made =
    ap (replayed number b) is ∙ ap (λ (o : Option PlainBook). goes_on number o (λ after. replayed (number + 1) after rest)) made

pub replayed-stops : (number : ℕ) (b : PlainBook) (bytes : List ℕ) (all rest : List (List ℕ)) → all ≡ bytes ∷ rest → after_record b bytes ≡ None → replayed number b all ≡ Err number
replayed-stops number b bytes all rest is none =
    ap (replayed number b) is ∙ ap (λ (o : Option PlainBook). goes_on number o (λ after. replayed (number + 1) after rest)) none
