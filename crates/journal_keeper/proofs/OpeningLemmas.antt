-- What a store is after its changes were made again.
use Rattle.std.specs.Prelude.{option_and_then, option_map}
use Rattle.std.proofs.lemmas.Bool.{and_from, cond-true}
use Rattle.std.proofs.lemmas.List.{map-append}
use Rattle.std.proofs.lemmas.List.Elements.{All-append, All-map, All-weaker}
use mathlib.Core.List.{IsPrefix}
use Rattle.upload_book.specs.Change.{CanBeMade, book_after_change}
use Rattle.upload_book.specs.declared.change.Change.{Change}
use Rattle.upload_book.specs.Events.{ChangeEvent}
use Rattle.upload_book.specs.PlainBook.{PlainBook, opening_book}
use Rattle.upload_book.specs.Settings.{Settings}
use Rattle.journal_records.specs.Reading.{record_at}
use Rattle.book_replay.specs.Made.{can_be_made}
use Rattle.book_replay.specs.Replay.{accepts, after_accepted, after_record, replayed}
use Rattle.book_replay.proofs.ReplayLemmas.{after_accepted-refused, after_accepted-unasked}
use Rattle.head_board.specs.Event.{Event}
use Rattle.head_board.specs.Events.{book_at, change_event}
use Rattle.head_board.proofs.SettingsLemmas.{at-settings}
use Rattle.tus_shared.specs.declared.again_fault.AgainFault.{AgainFault}
use Rattle.tus_shared.specs.declared.again_fault.AgainFault.TheVariants as again
use Rattle.tus_shared.specs.Steps.{IsMade, IsNextEvent, IsNotMade}
use Rattle.tus_shared.specs.Finals.{AreOpenings, Opening, book_of}
use Rattle.tus_shared.specs.Restoring.{RestoreNothing, RestoresNothing}
use Rattle.tus_shared.proofs.EventLemmas.{at-one}
use Rattle.tus_shared.proofs.FinalLemmas.{go-on}
use Rattle.tus_shared.proofs.LogLaws.{prefix-on}
use Rattle.tus_shared.proofs.QueueLemmas.{after-more}
use Rattle.journal_keeper.specs.declared.fault.ReopenFault.{ReopenFault}
use Rattle.journal_keeper.specs.declared.fault.ReopenFault.TheVariants.{Record, Memory as NoMemory, Waiting}
use Rattle.journal_keeper.specs.Opening.{IsFinal, IsMadeAgain, IsOutsideRecords, IsRecovered, IsReopenFault, RecoveredGoOn, opening_with}
use Rattle.std.proofs.Common.{◌≡◌, ℕ, Bool, true, false, IsTrue, List, [], ◌∷◌, ◌++◌, length, map, All, Option, Some, None, Result, Ok, Err, OnOk, refl, sym, ap, subst, ◌∙◌, append_assoc, arith}
use Rattle.journal_records.specs.Records.{record_bytes}
use Rattle.tus_shared.specs.Desk.{Desk, Moves}
use Rattle.journal_keeper.specs.Keeper.{event_records, IsLeft, IsLeftBy}
use Rattle.journal_keeper.proofs.KeeperLemmas.{records-append}
use Rattle.journal_frames.specs.Frames.{recovered}

-- ---- a change that is made again, or not

module _ (s : Settings) (before : List Event) where
  tenants-at : length (book_at s before).settings.tenants ≡ length s.tenants
  tenants-at = ap (λ (numbers : Settings). length numbers.tenants) (at-settings s before)

  may : (change : Change) → can_be_made (length s.tenants) change ≡ true → can_be_made (length (book_at s before).settings.tenants) change ≡ true
  may change can = ap (λ (n : ℕ). can_be_made n change) tenants-at ∙ can

  -- the book after it
  pub taken-after : (after : List Event) (desk : ℕ) (change : Change) (now : ℕ) → can_be_made (length s.tenants) change ≡ true → IsMade (book_at s before) before desk change now after
      → after_accepted (book_at s before) (record { change = change; now = now }) ≡ Some (book_at s after)
  taken-after after desk change now can made =
      let e : Event = record { desk = desk; change = change; now = now } in
      cond-true (accepts (book_at s before) (record { change = change; now = now })) (Some (book_after_change (book_at s before) change now)) None (and_from _ _ (may change can) made.accepted)
      ∙ ap Some (sym (at-one s before e) ∙ ap (book_at s) (sym made.next))

  -- there is none where a book may not be asked for it
  pub unasked-after : (change : Change) (now : ℕ) → can_be_made (length s.tenants) change ≡ false → after_accepted (book_at s before) (record { change = change; now = now }) ≡ None
  unasked-after change now not = after_accepted-unasked (book_at s before) change now (ap (λ (n : ℕ). can_be_made n change) tenants-at ∙ not)

  -- nor where it is refused for good
  pub refused-after : (change : Change) (now : ℕ) (why : AgainFault) → CanBeMade (length s.tenants) change → IsNotMade s (book_at s before) change now why → IsFinal why
      → after_accepted (book_at s before) (record { change = change; now = now }) ≡ None
  refused-after change now again.Waiting can not final = absurd final
  refused-after change now again.Change can not final = absurd (not can)
  refused-after change now (again.Refused why) can not final = after_accepted-refused (book_at s before) change now why not final

-- ---- records

pub record-after : (b : PlainBook) (bytes : List ℕ) (now : ℕ) (change : Change) (after : Option PlainBook) → record_at bytes ≡ Some (now, change) → after_accepted b (record { change = change; now = now }) ≡ after → after_record b bytes ≡ after
record-after b bytes now change after is made =
    ap (λ (read : Option (ℕ × Change)). option_and_then (after_accepted b) (option_map {T = ℕ × Change} {U = ChangeEvent} (λ r. record { change = r.1; now = r.0 }) read)) is ∙ made

-- the next event, where its record is read
pub made-of : {A E : Type 0} (r : Result A E) (desk now : ℕ) (change : Change) (bytes : List ℕ) (before after : List Event) → record_bytes now change ≡ bytes → OnOk r (IsNextEvent before desk change now after) → OnOk r (IsMadeAgain desk bytes before after)
made-of (Ok x) desk now change bytes before after is next = record { event = record { desk = desk; change = change; now = now }; desk_is = refl; record_is = is; next = next }
made-of (Err why) desk now change bytes before after is next = tt

pub records-next : (desk : ℕ) (bytes : List ℕ) (before after : List Event) (next rest all : List (List ℕ)) → IsMadeAgain desk bytes before after → next ≡ bytes ∷ rest → event_records before ++ next ≡ all → event_records after ++ rest ≡ all
records-next desk bytes before after next rest all made is so_far =
    ap (λ (events : List Event). event_records events ++ rest) made.next
    ∙ ap (λ (records : List (List ℕ)). records ++ rest) (records-append before (made.event ∷ []))
    ∙ append_assoc (event_records before) (event_records (made.event ∷ [])) rest
    ∙ ap (λ (record_of : List ℕ). event_records before ++ record_of ∷ rest) made.record_is
    ∙ ap (λ (records : List (List ℕ)). event_records before ++ records) (sym is)
    ∙ so_far

-- steps of a desk, one after another
pub moves-on : (s : Settings) (first before after : List Event) (old desk new : Desk) → Moves s first before old desk → Moves s before after desk new → Moves s first after old new
moves-on s first before after old desk new so_far step = record {
  number = step.number ∙ so_far.number;
  journal = step.journal ∙ so_far.journal;
  kept = step.kept ∙ so_far.kept;
  charged = omega (arith, so_far.charged, step.charged);
  released = omega (arith, so_far.released, step.released);
  made = omega (arith, so_far.made, step.made);
}

-- where no record is left the book is made
pub replayed_ended : (number : ℕ) (b : PlainBook) (rest : List (List ℕ)) → rest ≡ [] → replayed number b rest ≡ Ok b
replayed_ended number b rest is = ap (replayed number b) is

-- ---- what a crash left, made again

-- the book of its records is the plain book after their events
pub book-left : (key : ℕ) (s : Settings) (kept : List Event) (file : List ℕ) (records : List (List ℕ)) (book : PlainBook) (left : IsLeft key s kept file) → records ≡ recovered key file
    → replayed 1 (opening_book s) records ≡ Ok book → book ≡ book_at s left.events
book-left key s kept file records book left are made = ok_is book (book_at s left.events) (sym made ∙ ap (replayed 1 (opening_book s)) are ∙ left.make)
  where
    ok_is : (x y : PlainBook) → (let left : Result PlainBook ℕ = Ok x in let right : Result PlainBook ℕ = Ok y in left ≡ right) → x ≡ y
    ok_is x y is = cc

-- these begin with all that any desk was told to be kept, where the keeper kept that
pub all-recovered : {A E : Type 0} (made : Result A E) (key : ℕ) (s : Settings) (kept tried : List Event) (desks : List Desk) (file : List ℕ) (book : PlainBook) (by : IsLeftBy key s kept tried file)
    → All (λ (d : Desk). IsPrefix d.kept kept) desks → OnOk made (book ≡ book_at s by.left.events) → OnOk made (IsRecovered key file s kept tried desks book)
all-recovered (Ok it) key s kept tried desks file book by told is = record {
  events = by.left.events;
  begins = All-weaker _ _ (λ (d : Desk) (begins : IsPrefix d.kept kept). prefix-on d.kept kept by.left.events begins by.left.begins) desks told;
  behind = by.left.begins;
  within = by.within;
  plain = by.plain;
  happened = by.left.happened;
  is = is;
  made = by.left.make ∙ ap Ok (sym is);
}
all-recovered (Err why) key s kept tried desks file book by told is = tt

-- and none of them is refused
pub records-accepted : (key : ℕ) (s : Settings) (told : List Event) (file : List ℕ) (records : List (List ℕ)) (why : ReopenFault) → IsLeft key s told file → records ≡ recovered key file
    → IsReopenFault (replayed 1 (opening_book s) records) why → IsOutsideRecords why
records-accepted key s told file records (Record number) left are told_so = clash (replayed 1 (opening_book s) records) number (book_at s left.events) told_so (ap (replayed 1 (opening_book s)) are ∙ left.make)
  where
    clash : (made : Result PlainBook ℕ) (n : ℕ) (b : PlainBook) → made ≡ Err n → made ≡ Ok b → ⊥
    clash (Ok x) n b is other = absurd (cc (is))
    clash (Err m) n b is other = absurd (cc (other))
records-accepted key s told file records NoMemory left are told_so = tt
records-accepted key s told file records Waiting left are told_so = tt

-- ---- openings

-- what happened behind events that were kept is more of the same opening
more-since : (s : Settings) (before since more : List Event) (earlier : List Opening) → RestoreNothing more → AreOpenings (opening_with s before since ∷ earlier) → AreOpenings (opening_with s before (since ++ more) ∷ earlier)
more-since s before since more earlier plain are = (
  record {
    stood = are.0.stood;
    plain = subst (All (λ (e : ChangeEvent). RestoresNothing e.change)) (sym (map-append {A = Event} {B = ChangeEvent} change_event since more))
        (All-append (λ (e : ChangeEvent). RestoresNothing e.change) _ _ are.0.plain (All-map (λ (e : ChangeEvent). RestoresNothing e.change) change_event more plain));
  },
  are.1,
)

-- the book of an opening is the plain book after all of its events
book-of : (s : Settings) (before since : List Event) → book_of (opening_with s before since) ≡ book_at s (before ++ since)
book-of s before since = sym (after-more (opening_book s) before since)

pub recovered-go-on : RecoveredGoOn
recovered-go-on key file s kept tried again before since desks earlier recovered is are =
    let more = recovered.behind.0 in
    let all : recovered.events ≡ before ++ (since ++ more) = sym recovered.behind.1 ∙ ap (λ (l : List Event). l ++ more) is ∙ append_assoc before since more in
    let book : book_at s again ≡ book_of (opening_with s before (since ++ more)) = recovered.is ∙ ap (book_at s) all ∙ sym (book-of s before (since ++ more)) in
    go-on.reopened (opening_with s before (since ++ more)) earlier s (map {A = Event} {B = ChangeEvent} change_event again)
    (more-since s before since more earlier recovered.plain are) (ap (λ (b : PlainBook). b.tenants) book)
