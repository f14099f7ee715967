-- What the writer's calls leave of a board.
use Rattle.std.proofs.Common.{◌≡◌, ℕ, Bool, true, false, List, [], ◌∷◌, ◌++◌, fold, length, map, Some, Result, Ok, Err, refl, sym, ap, ap₂, subst, ◌∙◌}
use Rattle.std.specs.Option.{option_map_or}
use Rattle.std.proofs.lemmas.List.Sums.{fold-append}
use Rattle.std.specs.Result.{IsOk, MatchResult, is_ok}
use Rattle.left_right.specs.Register.{TurnsAt}
use Rattle.upload_book.specs.Change.{CanBeMade}
use Rattle.upload_book.specs.declared.board_line.Accounts.{Accounts}
use Rattle.upload_book.specs.declared.board_line.BoardLine.{BoardLine}
use Rattle.upload_book.specs.declared.head_note.HeadNote.{HeadNote}
use Rattle.upload_book.specs.declared.head_note.NotedChange.{NotedChange}
use Rattle.upload_book.specs.Events.{ChangeEvent, book_after_all, book_after_event}
use Rattle.upload_book.specs.HeadNotes.{line_told}
use Rattle.upload_book.specs.Heads.{Heads, apply_line, heads_of}
use Rattle.upload_book.specs.HeadSteps.{MayFollow}
use Rattle.upload_book.specs.PlainBook.{PlainBook, opening_book}
use Rattle.upload_book.specs.Settings.{AreSound, Settings}
use Rattle.head_board.specs.Event.{Event}
use Rattle.head_board.specs.declared.board_copy.Added.{Added}
use Rattle.head_board.specs.declared.board_copy.Note.{Note}
use Rattle.head_board.specs.declared.board_copy.Note.TheVariants.{Adds}
use Rattle.head_board.specs.declared.board_copy.BoardCopy.{BoardCopy}
use Rattle.head_board.specs.declared.board_copy.View.{View}
use Rattle.head_board.specs.declared.coming_texts.ComingTexts.{ComingTexts}
use Rattle.head_board.specs.inside.BoardRule.{IsAtRest, IsBegun}
use Rattle.head_board.specs.inside.EventLog.{LogPrefix}
use Rattle.head_board.specs.Events.{AllHappen, Happens, HaveHappened, IsNoteOfEvent, book_at, change_event}
use Rattle.head_board.specs.Room.{heads_noted, heads_with}
use Rattle.head_board.specs.inside.LastChanges.{last_of}
use Rattle.head_board.specs.inside.Showing.{Fits, IsConsistent, IsCurrent, IsNext, WithTexts, change_with, no_view, noted, view_of, with_note}
use Rattle.head_board.proofs.LastLemmas.{note-known, note-slots, rests-next}
use Rattle.head_board.proofs.LineLemmas.{lines_have_room}
use Rattle.head_board.proofs.RuleLemmas.{begins, fit-none, fit-snoc, fits-next, shows}

-- what holds where something succeeded, and it did
pub at_ok : {X E : Type 0} (r : Result X E) (P : Type 0) (Q : E → Type 0) → IsOk r → MatchResult r (λ (x : X). P) Q → P
at_ok (Ok x) P Q ok m = m
at_ok (Err e) P Q ok m = absurd (cc (ok))

-- and what holds where it failed, and it did
pub at_err : {X E : Type 0} (r : Result X E) (P : X → Type 0) (Q : Type 0) → is_ok r ≡ false → MatchResult r P (λ (e : E). Q) → Q
at_err (Ok x) P Q failed m = absurd (cc (failed))
at_err (Err e) P Q failed m = m

-- what is noted after something else
pub noted-more : (s : BoardCopy) (pending more : List Note) (note : Note) → more ≡ pending ++ note ∷ [] → fold noted s more ≡ noted (fold noted s pending) note
noted-more s pending more note is = ap (fold noted s) is ∙ fold-append noted s pending (note ∷ [])

-- the first copy is shown once more
pub begins-note : (seat : ℕ) (v : View) (s next same : BoardCopy) → same ≡ s → next ≡ same → TurnsAt IsConsistent seat v s next (λ v x y w. w ≡ view_of y)
begins-note seat v s next same one is =
    subst (λ (next : BoardCopy). TurnsAt IsConsistent seat v s next (λ v x y w. w ≡ view_of y)) (sym (is ∙ one)) (begins seat v s)

-- what was not done says nothing
pub begun-if : (done : Bool) (first shown : BoardCopy) (place : View) (left : List Note) → (done ≡ true → (shown ≡ first) × IsAtRest shown place left) → IsBegun done first shown place left
begun-if true first shown place left begun = begun refl
begun-if false first shown place left begun = tt

-- and then the writer knows which board it is
pub begun-rest : (s shown same : BoardCopy) (v : View) (left : List Note) → IsCurrent s → same ≡ s → shown ≡ same → left ≡ [] → v ≡ view_of shown → (shown ≡ s) × IsAtRest shown v left
begun-rest s shown same v left current one is none knows =
    let same : shown ≡ s = is ∙ one in (
      same,
      record {
        current = subst IsCurrent (sym same) current;
        knows = ap (λ (v : View). v.knows) knows;
        fits = subst (λ (v : View). Fits v shown) (sym knows) (λ k. (refl, refl));
        nothing = none;
      },
    )

-- a copy that is the same, and has the same notes, has the same next one
pub next-same : (s t : BoardCopy) (pending notes : List Note) → s ≡ t → pending ≡ notes → IsNext t (fold noted t notes) → IsNext s (fold noted s pending)
next-same s t pending notes same is next =
    subst (λ (s : BoardCopy). IsNext s (fold noted s pending)) (sym same) (subst (λ (pending : List Note). IsNext t (fold noted t pending)) (sym is) next)

-- the next copy is shown
pub shows-next : (seat : ℕ) (v : View) (s next : BoardCopy) (pending : List Note) → IsNext s (fold noted s pending) → next ≡ fold noted s pending → TurnsAt IsConsistent seat v s next (λ v x y w. w ≡ v)
shows-next seat v s next pending after is =
    subst (λ (next : BoardCopy). TurnsAt IsConsistent seat v s next (λ v x y w. w ≡ v)) (sym is) (shows seat v s (fold noted s pending) after.settings after.log after.current)

-- and the writer knows which board it is still
pub shown-rest : (s shown next : BoardCopy) (v w : View) (left : List Note) → IsNext s next → v.knows ≡ true → Fits v s → shown ≡ next → left ≡ [] → w ≡ v → IsAtRest shown w left
shown-rest s shown next v w left after knows fits is none same = record {
  current = subst IsCurrent (sym is) after.current;
  knows = ap (λ (v : View). v.knows) same ∙ knows;
  fits = subst (λ (v : View). Fits v shown) (sym same) (subst (Fits v) (sym is) (fits-next v s next after.settings after.log fits));
  nothing = none;
}

-- the rule holds of a current copy at first, when nothing is known
pub rule-first : (s : BoardCopy) → IsCurrent s → IsConsistent s (no_view ∷ [])
rule-first s current = record { current = current; each = fit-snoc s [] no_view (λ k u at. absurd (cc (at))) (fit-none s) }

-- a current copy is next to itself
pub next-self : (s : BoardCopy) → IsCurrent s → IsNext s s
next-self s current = record { current = current; settings = refl; log = refl }

-- what happens to a book after events, happens with them
pub happen-one : (b : PlainBook) (events : List Event) (e : Event) → AllHappen b events → Happens (book_after_all b (map {A = Event} {B = ChangeEvent} change_event events)) e → AllHappen b (events ++ e ∷ [])
happen-one b [] e all here = (here, tt)
happen-one b (x ∷ events) e all here = (all.0, happen-one (book_after_event b (change_event x)) events e all.1 here)

-- the book after one more event
pub after-one : (b : PlainBook) (events : List Event) (e : Event) → book_after_all b (map {A = Event} {B = ChangeEvent} change_event (events ++ e ∷ []))
    ≡ book_after_event (book_after_all b (map {A = Event} {B = ChangeEvent} change_event events)) (change_event e)
after-one b [] e = refl
after-one b (x ∷ events) e = after-one (book_after_event b (change_event x)) events e

-- a note that stands for a line on heads changes them by that
noted-line : (h : Heads) (note : HeadNote) (line : BoardLine) → line_told h note ≡ Some line → heads_noted h note ≡ heads_with h line
noted-line h note line told = ap (λ line. option_map_or (heads_with h) line h) told

-- a current copy is current after the note of an event that happened
pub current-noted : (s : BoardCopy) (e : Event) (note : HeadNote) (after : LogPrefix) (texts : ComingTexts) → IsCurrent s → after ≡ record s.seen { events = s.seen.events ++ e ∷ [] } → CanBeMade (length (book_at s.table.settings s.seen.events).settings.tenants) e.change → IsNoteOfEvent (book_at s.table.settings s.seen.events) e note
    → IsNext s (record (with_note s note after) { coming = texts })
current-noted s e note after texts current is asked told =
    let next : BoardCopy = record (with_note s note after) { coming = texts } in
    let line : BoardLine = told.line in
    let events : after.events ≡ s.seen.events ++ e ∷ [] = ap (λ (t : LogPrefix). t.events) is in
    let may : MayFollow s.table line = subst (λ (h : Heads). MayFollow h line) (sym current.heads) told.leads.may in
    let told_here : line_told s.table note ≡ Some line = subst (λ (h : Heads). line_told h note ≡ Some line) (sym current.heads) told.told in
    let table : next.table ≡ apply_line s.table line = noted-line s.table note line told_here ∙ rw (lines_have_room s.table line may) refl in
    let settings : next.table.settings ≡ s.table.settings = ap (λ (h : Heads). h.settings) table in
    let happened : HaveHappened s.table.settings after.events =
    subst (HaveHappened s.table.settings) (sym events) (happen-one (opening_book s.table.settings) s.seen.events e current.happened (record { asked = asked; line = line; told = record { is = told.is; leads = told.leads } })) in
    let heads : next.table ≡ heads_of (book_at s.table.settings after.events) =
    table ∙ ap (λ (h : Heads). apply_line h line) current.heads ∙ sym told.leads.heads ∙ sym (ap heads_of (ap (book_at s.table.settings) events ∙ after-one (opening_book s.table.settings) s.seen.events e)) in
    record {
      current = record {
        sound = subst AreSound (sym settings) current.sound;
        happened = subst (λ (settings : Settings). HaveHappened settings after.events) (sym settings) happened;
        heads = heads ∙ ap (λ (settings : Settings). heads_of (book_at settings after.events)) (sym settings);
        slots = note-slots s.table s.last_changes note.change after current.slots;
        rests = λ name. rests-next s next e line name (last_of next.last_changes name.id) settings is heads table (current.rests name) (note-known s.table s.last_changes note.change note.accounts after line name current.slots told_here);
      };
      settings = settings;
      log = ap (λ (t : LogPrefix). t.book) is;
    }

-- the copy after the last note of an event
pub added-last : (s told : BoardCopy) (note : HeadNote) (a : Added) → WithTexts s told → change_with told.coming a.change ≡ note.change → a.accounts ≡ note.accounts
    → noted told (Adds a) ≡ record (with_note s note a.after) { coming = told.coming }
added-last s told note a same change accounts =
    let made : NotedChange → Accounts → HeadNote = λ change accounts. record { change = change; accounts = accounts } in
    let copy : BoardCopy → HeadNote → BoardCopy = λ s note. record (with_note s note a.after) { coming = told.coming } in
    ap₂ copy same (ap₂ made change accounts)

-- so that one is next to the copy before the notes
pub shown-next : (s told next : BoardCopy) (pending : List Note) (note : HeadNote) (a : Added) → pending ≡ [] → WithTexts (fold noted s pending) told → change_with told.coming a.change ≡ note.change → a.accounts ≡ note.accounts → next ≡ noted told (Adds a)
    → ((texts : ComingTexts) → IsNext s (record (with_note s note a.after) { coming = texts })) → IsNext s next
shown-next s told next pending note a none texts change accounts is after =
    let same : WithTexts s told = subst (λ (t : BoardCopy). WithTexts t told) (ap (fold noted s) none) texts in
    subst (IsNext s) (sym (is ∙ added-last s told note a same change accounts)) (after told.coming)
