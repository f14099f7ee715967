-- What is kept as events are, and what a crash leaves of it.
use Rattle.logbook.specs.Pages.{Book}
use Rattle.std.specs.Prelude.{◌⊎◌, IsTrue, option_map}
use Rattle.std.proofs.Common.{◌≡◌, All, ℕ, inl, inr, ◌+◌, ◌-◌, ◌≤◌, Bool, true, false, List, [], ◌∷◌, ◌++◌, length, map, take, drop, Option, Some, None, IfSome, Result, Ok, Err, OnOk, refl, sym, ap, subst, ◌∙◌, append_assoc, arith}
use Rattle.std.proofs.lemmas.List.{append-nil, length-append, length-map, map-append, take-append-drop, take-map}
use Rattle.std.proofs.lemmas.List.Elements.{All-take}
use Rattle.std.proofs.Math.Seq.{take-append_seam}
use mathlib.Core.List.{IsPrefix}
use Rattle.sqlite_disk.specs.declared.Disk.{Ghosts}
use Rattle.book_replay.specs.Replay.{AllHappen, after_record, goes_on, record_of, records_of, replayed}
use Rattle.book_replay.proofs.ReplayLemmas.{all-replayed}
use Rattle.journal_file.specs.declared.journal.Journal.{Journal}
use Rattle.journal_file.specs.Journal.{disk_of, key_of, room_of, IsJournal}
use Rattle.journal_file.proofs.JournalLemmas.{journal_leaves}
use Rattle.journal_frames.specs.Crash.{Leaves}
use Rattle.upload_book.specs.Events.{ChangeEvent, book_after_event}
use Rattle.upload_book.specs.PlainBook.{PlainBook, opening_book}
use Rattle.upload_book.specs.Settings.{Settings}
use Rattle.head_board.specs.Event.{Event}
use Rattle.head_board.specs.inside.EventLog.{LogPrefix}
use Rattle.head_board.specs.Events.{HaveHappened, book_at, change_event}
use Rattle.tus_shared.specs.Journal.{CanBeReplayed, event_frame, event_frames}
use Rattle.tus_shared.specs.Restoring.{RestoreNothing, RestoresNothing}
use Rattle.tus_shared.proofs.EventLemmas.{happened-first}
use Rattle.tus_shared.proofs.FinalLemmas.{none-restored}
use Rattle.tus_shared.proofs.LogLaws.{prefix-on, prefix-self}
use Rattle.tus_shared.proofs.QueueLemmas.{after-more}
use Rattle.journal_keeper.specs.Keeper.{event_records, IsKeeper, IsLeft, IsLeftBy, KeepsBook, MakeBook}
use Rattle.journal_file.specs.Appending.{frames_each}

-- ---- records of events

pub records-append : (first more : List Event) → event_records (first ++ more) ≡ event_records first ++ event_records more
records-append first more =
    ap records_of (map-append {A = Event} {B = ChangeEvent} change_event first more)
    ∙ map-append {A = ChangeEvent} {B = List ℕ} record_of (map {A = Event} {B = ChangeEvent} change_event first) (map {A = Event} {B = ChangeEvent} change_event more)

pub records-take : (n : ℕ) (events : List Event) → take n (event_records events) ≡ event_records (take n events)
records-take n events =
    take-map {X = ChangeEvent} {Y = List ℕ} record_of n (map {A = Event} {B = ChangeEvent} change_event events)
    ∙ ap records_of (take-map {X = Event} {Y = ChangeEvent} change_event n events)

-- what is queued of events are the frames of their records
pub frames-records : (key : ℕ) (events : List Event) → event_frames (Some key) events ≡ frames_each key (event_records events)
frames-records key [] = refl
frames-records key (e ∷ events) = ap (λ (fs : List (List ℕ)). event_frame (Some key) e ∷ fs) (frames-records key events)

pub frames-queued : (journal : Option ℕ) (key : ℕ) (waiting : List (List ℕ)) (more : List Event) → journal ≡ Some key → waiting ≡ event_frames journal more → waiting ≡ frames_each key (event_records more)
frames-queued journal key waiting more is are = are ∙ ap (λ (j : Option ℕ). event_frames j more) is ∙ frames-records key more

-- as many frames were taken as events are behind those that were kept
pub taken-count : {V : Type 0} (items : V → List ℕ) (journal : Option ℕ) (kept reached more : List Event) (waiting : List V) → reached ≡ kept ++ more → map {A = V} {B = List ℕ} items waiting ≡ event_frames journal more
    → length waiting ≡ length reached - length kept
taken-count items journal kept reached more waiting reaches are =
    let each : length waiting ≡ length more = sym (length-map waiting items) ∙ ap (length {A = List ℕ}) are ∙ length-map more (event_frame journal) in
    omega (arith, each, ap (length {A = Event}) reaches, length-append kept more)

-- what holds whatever a call answered
pub on_ok : {A E : Type 0} (r : Result A E) (P : Type 0) → P → OnOk r P
on_ok (Ok x) P p = p
on_ok (Err why) P p = tt

-- ---- the book that is made of records

-- what can be made again of more records, can be of the first
replay-first : (b : PlainBook) (first more : List Event) → AllHappen b (map {A = Event} {B = ChangeEvent} change_event (first ++ more)) → AllHappen b (map {A = Event} {B = ChangeEvent} change_event first)
replay-first b [] more all = tt
replay-first b (e ∷ first) more all = (all.0, replay-first (book_after_event b (change_event e)) first more all.1)

plain-first : (first more : List Event) → RestoreNothing (first ++ more) → RestoreNothing first
plain-first first more all =
    let plain : Event → Type 0 = λ e. RestoresNothing e.change in
    subst (All plain) (take-append_seam first more) (All-take plain (length first) (first ++ more) all)

replay-durable : (s : Settings) (kept first more : List Event) → CanBeReplayed s kept (first ++ more) → CanBeReplayed s kept first
replay-durable s kept first more all = (replay-first (book_at s kept) first more all.0, plain-first first more all.1)

-- the records behind some of which a book is made are made on that book
goes-more : (number : ℕ) (first more : List (List ℕ)) (next : PlainBook) (made : Option PlainBook)
    → ((b : PlainBook) → replayed (number + 1) b first ≡ Ok next → replayed (number + 1) b (first ++ more) ≡ replayed ((number + 1) + length first) next more)
    → goes_on number made (λ after. replayed (number + 1) after first) ≡ Ok next
    → goes_on number made (λ after. replayed (number + 1) after (first ++ more)) ≡ replayed ((number + 1) + length first) next more
goes-more number first more next None rest is = absurd (cc (is))
goes-more number first more next (Some b) rest is = rest b is

pub replayed-more : (number : ℕ) (b next : PlainBook) (first more : List (List ℕ)) → replayed number b first ≡ Ok next → replayed number b (first ++ more) ≡ replayed (number + length first) next more
replayed-more number b next [] more is =
    let nothing : number ≡ number + length {A = List ℕ} [] = omega arith in
    ap (λ (x : PlainBook). replayed number x more) (ok_is b next is) ∙ ap (λ (n : ℕ). replayed n next more) nothing
  where
    ok_is : (x y : PlainBook) → (let left : Result PlainBook ℕ = Ok x in let right : Result PlainBook ℕ = Ok y in left ≡ right) → x ≡ y
    ok_is x y is = cc
replayed-more number b next (bytes ∷ first) more is =
    let one_more : (number + 1) + length first ≡ number + length (bytes ∷ first) = omega arith in
    goes-more number first more next (after_record b bytes) (λ after made. replayed-more (number + 1) after next first more made) is
    ∙ ap (λ (n : ℕ). replayed n next more) one_more

made-same : (x y : PlainBook) → x ≡ y → (let left : Result PlainBook ℕ = Ok x in let right : Result PlainBook ℕ = Ok y in left ≡ right)
made-same x y is = cc

-- so the book after more events is made of their records behind those of which the book before them is
pub make-more : (s : Settings) (kept more : List Event) (records : List (List ℕ)) → MakeBook s kept records → CanBeReplayed s kept more → MakeBook s (kept ++ more) (records ++ event_records more)
make-more s kept more records make others =
    replayed-more 1 (opening_book s) (book_at s kept) records (event_records more) make
    ∙ all-replayed (1 + length records) (book_at s kept) (map {A = Event} {B = ChangeEvent} change_event more) others.0
    ∙ made-same _ _ (sym (after-more (opening_book s) kept more))

-- ---- a crash

-- that leaves all that was synced, and the first so many of the records of events that come next
pub left-more : (key : ℕ) (s : Settings) (kept more : List Event) (tried : List Event) (records : List (List ℕ)) (c : List ℕ) → HaveHappened s (kept ++ more) → IsPrefix (kept ++ more) tried → MakeBook s kept records → CanBeReplayed s kept more → Leaves key records (event_records more) c
    → IsLeftBy key s kept tried c
left-more key s kept more tried records c happened reach make others left =
    let n = left.kept in
    let durable = replay-durable s kept (take n more) (drop n more) (subst (CanBeReplayed s kept) (sym (take-append-drop n more)) others) in
    let are = left.payloads ∙ ap (λ (rs : List (List ℕ)). records ++ rs) (records-take n more) in
    let all : (kept ++ take n more) ++ drop n more ≡ kept ++ more = append_assoc kept (take n more) (drop n more) ∙ ap (λ (events : List Event). kept ++ events) (take-append-drop n more) in
    record {
      left = record {
        events = kept ++ take n more;
        begins = (take n more, refl);
        happened = happened-first s (kept ++ take n more) (drop n more) (subst (HaveHappened s) (sym all) happened);
        torn = left.behind;
        make = ap (replayed 1 (opening_book s)) are ∙ make-more s kept (take n more) records make durable;
      };
      within = prefix-on (kept ++ take n more) (kept ++ more) tried (drop n more, all) reach;
      plain = durable.1;
    }

-- what is left of more is left of less
pub left-less : (key : ℕ) (s : Settings) (less kept : List Event) (c : List ℕ) → IsPrefix less kept → IsLeft key s kept c → IsLeft key s less c
left-less key s less kept c begins left = record {
  events = left.events;
  begins = prefix-on less kept left.events begins left.begins;
  happened = left.happened;
  torn = left.torn;
  make = left.make;
}

module _ {D : Type 0} {g : Ghosts D} where
  -- a journal with records of which the book after these events is made, all synced
  pub left-all : (journal : Journal D g) (s : Settings) (kept tried : List Event) → HaveHappened s kept → IsPrefix kept tried → KeepsBook s journal kept → (c : List ℕ) → g.may_leave (disk_of journal) c → IsLeftBy (key_of journal) s kept tried c
  left-all journal s kept tried happened begins keeps c may =
      left-more _ s kept [] tried keeps.records c (subst (HaveHappened s) (sym (append-nil kept)) happened) (subst (λ (events : List Event). IsPrefix events tried) (sym (append-nil kept)) begins) keeps.make (tt, none-restored) (journal_leaves journal keeps.records [] keeps.holds c may)

  abbrev pub OtherLeaves : ℕ → Settings → List Event → List Event → Option (Journal D g) → Type 0
  OtherLeaves key s kept tried other = IfSome other (λ (it : Journal D g). (c : List ℕ) → g.may_leave (disk_of it) c → IsLeftBy key s kept tried c)

  -- where there is no other one
  pub no-other : (key : ℕ) (s : Settings) (kept tried : List Event) (other : Option (Journal D g)) → other ≡ None → OtherLeaves key s kept tried other
  no-other key s kept tried other none = subst (OtherLeaves key s kept tried) (sym none) tt

  -- a journal that was made longer, and has room for all that is promised now
  pub kept-longer : (old new : Journal D g) (other : Option (Journal D g)) (s : Settings) (log : Book) (own : Option ℕ) (honest : Bool) (durable tried : LogPrefix) (before now : ℕ) (failed : Bool)
      → failed ≡ false → IsKeeper s log own honest old other durable tried before failed → key_of new ≡ key_of old
      → ((payloads : List (List ℕ)) → IsJournal old payloads [] → IsJournal new payloads []) → now ≤ room_of new
      → IsKeeper s log own honest new other durable tried now failed
  kept-longer old new other s log own honest durable tried before now failed well is key stays covers = record {
    key = is.key ∙ ap (λ (k : ℕ). Some k) (sym key);
    durable_log = is.durable_log;
    tried_log = is.tried_log;
    begins = is.begins;
    no_more = is.no_more;
    happened = is.happened;
    holds = λ well honest. longer (is.holds well honest);
    left = λ honest c may. left-all new s durable.events tried.events is.happened is.begins (longer (is.holds well honest)) c may;
    alone = is.alone;
    other_left = λ honest. no-other _ s durable.events tried.events other (is.alone well);
    covered = λ well. covers;
  }
    where
      longer : KeepsBook s old durable.events → KeepsBook s new durable.events
      longer keeps = record { records = keeps.records; holds = stays keeps.records keeps.holds; make = keeps.make }

  -- a journal that keeps all events that were to be kept
  pub kept-more : (old new : Journal D g) (other : Option (Journal D g)) (s : Settings) (log : Book) (own : Option ℕ) (honest : Bool) (durable tried reached again : LogPrefix) (before now : ℕ) (failed : Bool)
      → failed ≡ false → IsKeeper s log own honest old other durable tried before failed → key_of new ≡ key_of old → reached.book ≡ log → HaveHappened s reached.events
      → (KeepsBook s old durable.events → KeepsBook s new reached.events) → (before ≤ room_of old → now ≤ room_of new) → again ≡ reached
      → IsKeeper s log own honest new other reached again now false
  kept-more old new other s log own honest durable tried reached again before now failed well is key log_is happened keeps covers same =
      let begins : IsPrefix reached.events again.events = subst (λ (r : LogPrefix). IsPrefix reached.events r.events) (sym same) (prefix-self reached.events) in
      record {
        key = is.key ∙ ap (λ (k : ℕ). Some k) (sym key);
        durable_log = log_is;
        tried_log = ap (λ (r : LogPrefix). r.book) same ∙ log_is;
        begins = begins;
        no_more = λ _. same;
        happened = happened;
        holds = λ _ honest. keeps (is.holds well honest);
        left = λ honest c may. left-all new s reached.events again.events happened begins (keeps (is.holds well honest)) c may;
        alone = λ _. is.alone well;
        other_left = λ honest. no-other _ s reached.events again.events other (is.alone well);
        covered = λ _. covers (is.covered well);
      }

  -- another journal that keeps the same events, and has room for all that is promised
  pub kept-instead : (old new : Journal D g) (other : Option (Journal D g)) (s : Settings) (log : Book) (own : Option ℕ) (honest : Bool) (durable tried : LogPrefix) (promised : ℕ) (failed : Bool)
      → failed ≡ false → IsKeeper s log own honest old other durable tried promised failed → key_of new ≡ key_of old → promised ≤ room_of new → KeepsBook s new durable.events
      → IsKeeper s log own honest new other durable tried promised failed
  kept-instead old new other s log own honest durable tried promised failed well is key room keeps = record {
    key = is.key ∙ ap (λ (k : ℕ). Some k) (sym key);
    durable_log = is.durable_log;
    tried_log = is.tried_log;
    begins = is.begins;
    no_more = is.no_more;
    happened = is.happened;
    holds = λ _ _. keeps;
    left = λ _ c may. left-all new s durable.events tried.events is.happened is.begins keeps c may;
    alone = is.alone;
    other_left = λ _. no-other _ s durable.events tried.events other (is.alone well);
    covered = λ _. room;
  }

  -- a journal of which a crash leaves what was kept, where keeping more has failed
  pub kept-lost : (old new : Journal D g) (other : Option (Journal D g)) (s : Settings) (log : Book) (own : Option ℕ) (honest : Bool) (durable tried reached again : LogPrefix) (before now : ℕ) (failed : Bool)
      → failed ≡ false → IsKeeper s log own honest old other durable tried before failed → key_of new ≡ key_of old → reached.book ≡ log → IsPrefix durable.events reached.events
      → (KeepsBook s old durable.events → (c : List ℕ) → g.may_leave (disk_of new) c → IsLeftBy (key_of old) s durable.events reached.events c) → again ≡ reached
      → IsKeeper s log own honest new other durable again now true
  kept-lost old new other s log own honest durable tried reached again before now failed well is key log_is begins crash same = record {
    key = is.key ∙ ap (λ (k : ℕ). Some k) (sym key);
    durable_log = is.durable_log;
    tried_log = ap (λ (r : LogPrefix). r.book) same ∙ log_is;
    begins = subst (λ (r : LogPrefix). IsPrefix durable.events r.events) (sym same) begins;
    no_more = λ well. absurd (cc (well));
    happened = is.happened;
    holds = λ well _. absurd (cc (well));
    left = λ honest c may. subst (λ (r : LogPrefix). IsLeftBy (key_of new) s durable.events r.events c) (sym same) (subst (λ (k : ℕ). IsLeftBy k s durable.events reached.events c) (sym key) (crash (is.holds well honest) c may));
    alone = λ well. absurd (cc (well));
    other_left = λ honest. no-other _ s durable.events again.events other (is.alone well);
    covered = λ well. absurd (cc (well));
  }

  -- another one that may have taken its place
  pub kept-beside : (old new : Journal D g) (other : Option (Journal D g)) (s : Settings) (log : Book) (own : Option ℕ) (honest : Bool) (durable tried : LogPrefix) (promised : ℕ) (failed : Bool)
      → IsKeeper s log own honest old other durable tried promised failed → key_of new ≡ key_of old → KeepsBook s new durable.events
      → IsKeeper s log own honest old (Some new) durable tried promised true
  kept-beside old new other s log own honest durable tried promised failed is key keeps = record {
    key = is.key;
    durable_log = is.durable_log;
    tried_log = is.tried_log;
    begins = is.begins;
    no_more = λ well. absurd (cc (well));
    happened = is.happened;
    holds = λ well _. absurd (cc (well));
    left = is.left;
    alone = λ well. absurd (cc (well));
    other_left = λ _ c may. subst (λ (k : ℕ). IsLeftBy k s durable.events tried.events c) key (left-all new s durable.events tried.events is.happened is.begins keeps c may);
    covered = λ well. absurd (cc (well));
  }

  -- what a keeper's journal leaves, and the other one that may have taken its place
  pub crash-leaves : (s : Settings) (log : Book) (own : Option ℕ) (honest : Bool) (journal : Journal D g) (other : Option (Journal D g)) (durable tried : LogPrefix) (promised : ℕ) (failed : Bool)
      → IsKeeper s log own honest journal other durable tried promised failed → IsTrue honest → (c : List ℕ)
      → g.may_leave (disk_of journal) c ⊎ ((new : D) × (option_map (λ (it : Journal D g). disk_of it) other ≡ Some new) × g.may_leave new c) → IsLeftBy (key_of journal) s durable.events tried.events c
  crash-leaves s log own honest journal other durable tried promised failed is told c (inl may) = is.left told c may
  crash-leaves s log own honest journal None durable tried promised failed is told c (inr may) = absurd (cc (may.1))
  crash-leaves s log own honest journal (Some it) durable tried promised failed is told c (inr may) =
      is.other_left told c (subst (λ (d : D). g.may_leave d c) (same (disk_of it) may.0 may.1) may.2)
    where
      same : (x y : D) → (let left : Option D = Some x in let right : Option D = Some y in left ≡ right) → y ≡ x
      same x y is = cc
