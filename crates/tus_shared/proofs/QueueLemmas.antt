-- What waits in the queue of a store, step by step.
use Rattle.std.proofs.Common.{◌≡◌, ℕ, suc, length-append, ◌+◌, ◌<◌, ◌≤◌, true, false, List, [], ◌∷◌, ◌++◌, append_assoc, zero-add, length, map, Option, Some, None, is_some, IsSome, IfSome, option_map, Ok, Err, refl, sym, ap, ap₂, subst, ◌∙◌, arith}
use Rattle.std.proofs.lemmas.List.{append-nil, map-append}
use Rattle.std.proofs.lemmas.List.Sums.{sum_by-append}
use mathlib.Core.List.{IsPrefix}
use Rattle.logbook.specs.Pages.{Book}
use Rattle.book_replay.specs.Replay.{AllHappen, Happens}
use Rattle.upload_book.specs.declared.change.Change.{Change}
use Rattle.upload_book.specs.Events.{ChangeEvent, book_after_all, book_after_event}
use Rattle.upload_book.specs.PlainBook.{PlainBook, opening_book}
use Rattle.upload_book.specs.Settings.{Settings}
use Rattle.head_board.specs.Event.{Event}
use Rattle.head_board.specs.Events.{HaveHappened, book_at, change_event}
use Rattle.tus_shared.specs.declared.unqueued.Unqueued.{Unqueued}
use Rattle.tus_shared.specs.declared.unqueued.Unqueued.TheVariants.{NoFrame, NoPlace, NoRoom}
use Rattle.tus_shared.specs.Journal.{AreTaken, CanBeReplayed, IsUnqueued, change_frame, event_frame, event_frames, journal_len, spare_of}
use Rattle.tus_shared.specs.Restoring.{RestoreNothing, RestoresNothing}
use Rattle.tus_shared.specs.inside.QueueRule.{IsFramed, IsLacking, IsQueued, QueueView, Takes, Waits, new_queue, passed}
use Rattle.tus_shared.proofs.ChangeLemmas.{event_by}
use Rattle.tus_shared.proofs.FinalLemmas.{none-restored, restored-on}

-- lists that begin each other are the same
pub prefix-both : (a b : List Event) → IsPrefix a b → IsPrefix b a → a ≡ b
prefix-both a b p q = by_rest p.0 refl
  where
    by_rest : (rest : List Event) → p.0 ≡ rest → a ≡ b
    by_rest [] is = sym (append-nil a) ∙ ap (λ (r : List Event). a ++ r) (sym is) ∙ p.1
    by_rest (x ∷ rest) is =
        let more : length p.0 ≡ suc (length rest) = ap (length {A = Event}) is in
        let there : length a + length p.0 ≡ length b = sym (length-append a p.0) ∙ ap (length {A = Event}) p.1 in
        let back : length b + length q.0 ≡ length a = sym (length-append b q.0) ∙ ap (length {A = Event}) q.1 in
        absurd (omega arith)

-- the frame that is to be queued is that of an event
abbrev pub IsFrameOf : Option ℕ → Event → Option (List ℕ) → Type 0
IsFrameOf journal e frame = IfSome frame (λ (bytes : List ℕ). bytes ≡ event_frame journal e)

-- one that is there is
frame-is : (journal : Option ℕ) (e : Event) (frame : Option (List ℕ)) (bytes : List ℕ) → frame ≡ Some bytes → IsFrameOf journal e frame → bytes ≡ event_frame journal e
frame-is journal e frame bytes there is = subst (IsFrameOf journal e) there is

-- the book after some events and then others
pub after-more : (b : PlainBook) (first more : List Event) → book_after_all b (map {A = Event} {B = ChangeEvent} change_event (first ++ more))
    ≡ book_after_all (book_after_all b (map {A = Event} {B = ChangeEvent} change_event first)) (map {A = Event} {B = ChangeEvent} change_event more)
after-more b [] more = refl
after-more b (e ∷ first) more = after-more (book_after_event b (change_event e)) first more

-- one event more that can be made again
replay-one : (b : PlainBook) (events : List Event) (e : Event) → AllHappen b (map {A = Event} {B = ChangeEvent} change_event events)
    → Happens (book_after_all b (map {A = Event} {B = ChangeEvent} change_event events)) (change_event e) → AllHappen b (map {A = Event} {B = ChangeEvent} change_event (events ++ e ∷ []))
replay-one b [] e all here = (here, tt)
replay-one b (first ∷ events) e all here = (all.0, replay-one (book_after_event b (change_event first)) events e all.1 here)

pub replayed-on : (s : Settings) (before more events : List Event) (e : Event) → events ≡ before ++ more → CanBeReplayed s before more → Happens (book_at s events) (change_event e) → RestoresNothing e.change → CanBeReplayed s before (more ++ e ∷ [])
replayed-on s before more events e is again here plain = (
  replay-one (book_at s before) more e again.0 (subst (λ (b : PlainBook). Happens b (change_event e)) (ap (book_at s) is ∙ after-more (opening_book s) before more) here),
  restored-on more (more ++ e ∷ []) e refl again.1 plain,
)

-- without a journal nothing is restored by one event more
joined-on : (journal : Option ℕ) (events after : List Event) (e : Event) → after ≡ events ++ e ∷ [] → RestoresNothing e.change → (journal ≡ None → RestoreNothing events) → journal ≡ None → RestoreNothing after
joined-on journal events after e next plain before none = restored-on events after e next (before none) plain

-- the queue of a store after one event more
pub queue-on : (s : Settings) (journal : Option ℕ) (log : Book) (events after : List Event) (e : Event) (frame : Option (List ℕ)) (old new : Option QueueView) (room spare left : ℕ)
    → IsFramed (Ok tt) old frame room spare new left → IsFrameOf journal e frame → after ≡ events ++ e ∷ [] → Happens (book_at s events) (change_event e) → RestoresNothing e.change
    → IsQueued s journal log events old → IsQueued s journal log after new
queue-on s journal log events after e frame None new room spare left framed is next here plain queued = subst (IsQueued s journal log after) (sym framed.0) (record { there = queued.there; waits = tt; joined = joined-on journal events after e next plain queued.joined })
queue-on s journal log events after e frame (Some waiting) new room spare left framed is next here plain queued =
    let w : Waits s journal log events waiting = queued.waits in
    let frames : waiting.frames ++ framed.bytes ∷ [] ≡ event_frames journal w.more ++ event_frame journal e ∷ [] = ap₂ (λ (fs : List (List ℕ)) (b : List ℕ). fs ++ b ∷ []) w.frames_are (frame-is journal e frame framed.bytes framed.is is) in
    subst (IsQueued s journal log after) (sym framed.queued) (record {
      there = queued.there;
      waits = record {
        log_is = w.log_is;
        more = w.more ++ e ∷ [];
        reaches = next ∙ ap (λ (l : List Event). l ++ e ∷ []) w.reaches ∙ append_assoc waiting.behind w.more (e ∷ []);
        frames_are = frames ∙ sym (map-append (event_frame journal) w.more (e ∷ []));
        again = replayed-on s waiting.behind w.more events e w.reaches w.again here plain;
      };
      joined = joined-on journal events after e next plain queued.joined;
    })

-- where no frame is queued, there is a queue, and it stays
pub queue-stays : (why : Unqueued) (frame : Option (List ℕ)) (old new : Option QueueView) (room spare left : ℕ) → IsFramed (Err why) old frame room spare new left → (new ≡ old) × (left ≡ room) × IsSome old
queue-stays why frame None new room spare left framed = absurd framed
queue-stays why frame (Some waiting) new room spare left framed = (framed.0, framed.1, refl)

-- why that of an event is not
lacking-why : (journal : Option ℕ) (e : Event) (why : Unqueued) (frame : Option (List ℕ)) (waiting : QueueView) (room : ℕ) → IsLacking waiting frame room (spare_of e.change) why → IsFrameOf journal e frame
    → IsUnqueued (record { journal = journal; frame = frame; room = room }) e.change e.now why
lacking-why journal e NoFrame frame waiting room lacks is = lacks
lacking-why journal e NoRoom frame waiting room lacks is =
    subst (λ (bytes : List ℕ). room < length bytes + spare_of e.change) (frame-is journal e frame lacks.0 lacks.1 is) lacks.2
lacking-why journal e NoPlace frame waiting room lacks is = (
  ap is_some lacks.1,
  subst (λ (bytes : List ℕ). length bytes + spare_of e.change ≤ room) (frame-is journal e frame lacks.0 lacks.1 is) lacks.2,
)

pub framed-why : (journal own : Option ℕ) (e : Event) (why : Unqueued) (frame : Option (List ℕ)) (old new : Option QueueView) (room spare left : ℕ) → IsFramed (Err why) old frame room spare new left
    → IsFrameOf journal e frame → spare ≡ spare_of e.change → own ≡ journal → IsUnqueued (record { journal = own; frame = frame; room = room }) e.change e.now why
framed-why journal own e why frame None new room spare left framed is same keyed = absurd framed
framed-why journal own e why frame (Some waiting) new room spare left framed is same keyed =
    subst (λ (j : Option ℕ). IsUnqueued (record { journal = j; frame = frame; room = room }) e.change e.now why) (sym keyed)
    (lacking-why journal e why frame waiting room (subst (λ (n : ℕ). IsLacking waiting frame room n why) same framed.2) is)

-- the room falls by the frame of the event
pub framed-spends : (journal : Option ℕ) (e : Event) (frame : Option (List ℕ)) (old new : Option QueueView) (room spare left : ℕ)
    → IsFramed (Ok tt) old frame room spare new left → IsFrameOf journal e frame → is_some old ≡ is_some journal → left + length (event_frame journal e) ≡ room
framed-spends None e frame None new room spare left framed is there = omega (arith, framed.1)
framed-spends (Some key) e frame None new room spare left framed is there = absurd (cc (there))
framed-spends journal e frame (Some waiting) new room spare left framed is there = ap (λ (b : List ℕ). left + length b) (sym (frame-is journal e frame framed.bytes framed.is is)) ∙ framed.spent

-- and has what is to be spared
pub framed-spares : (journal : Option ℕ) (frame : Option (List ℕ)) (old new : Option QueueView) (room spare left : ℕ)
    → IsFramed (Ok tt) old frame room spare new left → is_some old ≡ is_some journal → IsSome journal → spare ≤ left
framed-spares journal frame None new room spare left framed there journalled = absurd (let no : false ≡ true = there ∙ journalled in cc)
framed-spares journal frame (Some waiting) new room spare left framed there journalled = framed.spared

-- how long the frames are after one event more
pub len-one : (journal : Option ℕ) (events : List Event) (e : Event) → journal_len journal (events ++ e ∷ []) ≡ journal_len journal events + length (event_frame journal e)
len-one journal events e =
    let len : Event → ℕ = λ (e : Event). length (event_frame journal e) in
    sum_by-append len events (e ∷ []) ∙ ap (λ (n : ℕ). journal_len journal events + n) (zero-add (len e))

-- what the room falls by, is the frame of the event that happened
pub spends-one : (journal own : Option ℕ) (before after : List Event) (e : Event) (room left now : ℕ) → own ≡ journal → after ≡ before ++ e ∷ [] → now ≡ left → left + length (event_frame journal e) ≡ room
    → now + journal_len own after ≡ room + journal_len own before
spends-one journal own before after e room left now is next stays spent =
    let len : journal_len own after ≡ journal_len own before + length (event_frame own e) = ap (journal_len own) next ∙ len-one own before e in
    let same : length (event_frame own e) ≡ length (event_frame journal e) = ap (λ (j : Option ℕ). length (event_frame j e)) is in
    omega arith

-- where there is a journal, what holds without one is nothing
none-there : (journal : Option ℕ) (events : List Event) → IsSome journal → journal ≡ None → RestoreNothing events
none-there journal events there none = absurd (let no = subst (λ (j : Option ℕ). IsSome j) none there in cc)

-- a queue in which nothing waits begins behind more events
pub queue-passed : (s : Settings) (journal : Option ℕ) (log : Book) (events all : List Event) (old : Option QueueView) → IsSome journal → IfSome old (λ (q : QueueView). q.frames ≡ []) → IsQueued s journal log events old → IsQueued s journal log all (passed old log all)
queue-passed s journal log events all None journalled idle queued = record { there = queued.there; waits = tt; joined = none-there journal all journalled }
queue-passed s journal log events all (Some waiting) journalled idle queued = record {
  joined = none-there journal all journalled;
  there = queued.there;
  waits = record { log_is = refl; more = []; reaches = sym (append-nil all); frames_are = idle; again = (tt, none-restored) };
}

-- that of a new store
pub queue-new : (s : Settings) (journal : Option ℕ) (log : Book) → IsQueued s journal log [] (new_queue journal log [])
queue-new s None log = record { there = refl; waits = tt; joined = λ _. none-restored }
queue-new s (Some key) log = record { there = refl; waits = record { log_is = refl; more = []; reaches = refl; frames_are = refl; again = (tt, none-restored) }; joined = λ _. none-restored }

-- frames that are taken out of the queue
pub frames-taken : (s : Settings) (journal : Option ℕ) (log : Book) (events from : List Event) (waiting : List (List ℕ)) (old new : Option QueueView) → HaveHappened s events → Takes old from waiting log events new → IsQueued s journal log events old
    → AreTaken s journal from events waiting
frames-taken s journal log events from waiting old new happened takes queued =
    let w : Waits s journal log events takes.queue = (subst (IsQueued s journal log events) takes.was queued).waits in
    record {
      more = w.more;
      happened = happened;
      reaches = w.reaches ∙ ap (λ (l : List Event). l ++ w.more) (sym takes.begins);
      are = takes.all ∙ w.frames_are;
      again = subst (λ (before : List Event). CanBeReplayed s before w.more) (sym takes.begins) w.again;
    }

pub queue-taken : (s : Settings) (journal : Option ℕ) (log : Book) (events from : List Event) (waiting : List (List ℕ)) (old new : Option QueueView) → Takes old from waiting log events new → IsQueued s journal log events old → IsQueued s journal log events new
queue-taken s journal log events from waiting old new takes queued =
    let there : true ≡ is_some journal = (subst (IsQueued s journal log events) takes.was queued).there in
    subst (IsQueued s journal log events) (sym takes.empty) (record {
      joined = queued.joined;
      there = there;
      waits = record { log_is = refl; more = []; reaches = sym (append-nil events); frames_are = refl; again = (tt, none-restored) };
    })

-- a queue is there where there is a journal
pub queue-journal : (s : Settings) (journal : Option ℕ) (log : Book) (events : List Event) (queue : Option QueueView) → IsQueued s journal log events queue → IsSome queue → IsSome journal
queue-journal s journal log events queue queued there = sym queued.there ∙ there

-- a frame that was made of a change is that of its event
pub frame-given : {V : Type 0} (frame : Option V) (items : V → List ℕ) (journal : Option ℕ) (desk : ℕ) (change : Change) (now : ℕ)
    → IfSome frame (λ (v : V). items v ≡ change_frame journal change now) → IsFrameOf journal (event_by desk change now) (option_map items frame)
frame-given None items journal desk change now given = tt
frame-given (Some v) items journal desk change now given = given
