-- What a change does at a store, and which step of a request that is.
use Rattle.std.specs.Prelude.{◌⊎◌, is_err, ⊤}
use Rattle.std.proofs.Common.{◌≡◌, ℕ, ◌+◌, ◌≤◌, false, List, [], ◌∷◌, ◌++◌, Option, Some, Result, Ok, Err, IsOk, IsErr, inl, inr, length, length-append, refl, sym, ap, subst, ◌∙◌}
use Rattle.upload_book.specs.Change.{CanBeMade, MayLackFor, book_after_change, change_answer, change_lacking}
use Rattle.upload_book.specs.declared.append.Refused.{Refused}
use Rattle.upload_book.specs.declared.board_line.BoardLine.{BoardLine}
use Rattle.upload_book.specs.declared.change.Change.{Change}
use Rattle.upload_book.specs.declared.change.Outcome.{Outcome}
use Rattle.upload_book.specs.Heads.{Heads, heads_of}
use Rattle.upload_book.specs.PlainBook.{PlainBook}
use Rattle.upload_book.specs.Refusal.{IsAnswer}
use Rattle.upload_book.specs.Settings.{Settings}
use Rattle.tus_steps.specs.Changing.{IsStepOf, change_found, change_reply}
use Rattle.tus_steps.specs.declared.requested_change.ChangeOf.{ChangeOf}
use Rattle.tus_steps.specs.Request.{Request}
use Rattle.tus_steps.specs.Step.{IsStep}
use Rattle.head_board.specs.Board.{BoardView}
use Rattle.head_board.specs.Event.{Event}
use Rattle.head_board.specs.Events.{IsLineOf, book_at}
use Rattle.tus_shared.specs.Journal.{Queueing}
use Rattle.tus_shared.specs.Steps.{IsDone, IsMade, IsNextEvent, IsStepAt, IsUnkept}
use Rattle.tus_shared.specs.Store.{IsBookAt}
use Rattle.tus_shared.proofs.EventLemmas.{at-one, book-one}

-- the event of a change, made at a desk
abbrev pub event_by : ℕ → Change → ℕ → Event
event_by desk change now = record { desk = desk; change = change; now = now }

-- a change that is refused leaves what happened
pub done-refused : (q : Queueing) (b : PlainBook) (events : List Event) (desk : ℕ) (change : Change) (now : ℕ) (why : Refused)
    → IsAnswer (change_answer b change now) (MayLackFor b change now) (change_lacking b change now) (Err why) → IsDone q b events desk change now (Err why) events
done-refused q b events desk change now why answer = inr (record { refused = refl; why = inl answer; same = refl })

-- so does one that the book accepts, and whose record is not queued
pub done-unkept : (q : Queueing) (b : PlainBook) (events : List Event) (desk : ℕ) (change : Change) (now : ℕ) (told : Refused) → IsUnkept q b change now → Err told ≡ change_lacking b change now
    → IsDone q b events desk change now (Err told) events
done-unkept q b events desk change now told unkept is = inr (record { refused = refl; why = inr (unkept, is); same = refl })

-- one for which the book was ready is made
pub done-made : (b stored : PlainBook) (events after : List Event) (desk : ℕ) (change prepared : Change) (now moment : ℕ) (outcome : Outcome)
    → prepared ≡ change → moment ≡ now → stored ≡ b → IsNextEvent events desk prepared moment after → change_answer stored prepared moment ≡ Ok outcome
    → IsMade b events desk change now after × (Ok outcome ≡ change_answer b change now)
done-made b stored events after desk change prepared now moment outcome is at same next answer =
    let answered : change_answer b change now ≡ Ok outcome = rw (is, at, same) at answer in (
      record {
        accepted = subst IsOk (sym answered) refl;
        next = rw (is, at) at next;
      },
      sym answered,
    )

-- no total falls by an event that happened
pub record NoLess (before after : PlainBook) : Type 0 where
  pub charged : before.charged ≤ after.charged
  pub released : before.released ≤ after.released

pub no-less : (b after : PlainBook) (e : Event) (line : BoardLine) → IsLineOf b e line → after ≡ book_after_change b e.change e.now → NoLess b after
no-less b after e line told is =
    let heads = ap heads_of is ∙ told.leads.heads in
    record {
      charged = subst (λ (n : ℕ). b.charged ≤ n) (sym (ap (λ (h : Heads). h.accounts.charged) heads)) told.leads.may.charged;
      released = subst (λ (n : ℕ). b.released ≤ n) (sym (ap (λ (h : Heads). h.accounts.released) heads)) told.leads.may.released;
    }

-- a book whose line is shown, after the change
pub shown-at : (s : Settings) (board shown : BoardView) (b prepared after : PlainBook) (e : Event) (line : BoardLine) → IsBookAt s board.events b → prepared ≡ b → CanBeMade (length s.tenants) e.change → IsLineOf prepared e line
    → shown ≡ record board { events = board.events ++ e ∷ [] } → after ≡ book_after_change prepared e.change e.now → IsBookAt s shown.events after
shown-at s board shown b prepared after e line at same asked told is made =
    let before : IsBookAt s board.events prepared = subst (IsBookAt s board.events) (sym same) at in
    subst (λ (v : BoardView). IsBookAt s v.events after) (sym is) (book-one s board.events e line prepared after before asked told made)

-- there is one event more
pub shown-one : (board shown : BoardView) (e : Event) → shown ≡ record board { events = board.events ++ e ∷ [] } → length shown.events ≡ length board.events + 1
shown-one board shown e is = ap (λ (v : BoardView). length v.events) is ∙ length-append board.events (e ∷ [])

-- why it was refused
pub err-of : {A E : Type 0} (r : Result A E) → IsErr r → (e : E) × (r ≡ Err e)
err-of (Ok x) err = absurd (cc err)
err-of (Err e) err = (e, refl)

-- and that it was not
pub ok-of : {E : Type 0} (r : Result ⊤ E) → is_err r ≡ false → r ≡ Ok tt
ok-of (Ok done) fine = refl
ok-of (Err e) fine = absurd (cc (fine))

-- a step with this reply and this book after it, under other names
step-as : (b : PlainBook) (r : Request) (now : ℕ) (offset : Option ℕ) (answer result : Result Outcome Refused) (made after : PlainBook) → IsStep b r now (change_reply r offset answer) made
    → result ≡ answer → after ≡ made → IsStep b r now (change_reply r offset result) after
step-as b r now offset answer result made after step is same =
    subst (λ (x : PlainBook). IsStep b r now (change_reply r offset result) x) (sym same)
    (subst (λ (o : Result Outcome Refused). IsStep b r now (change_reply r offset o) made) (sym is) step)

-- what was done of the change that a request asks for is its step
pub done-step : (q : Queueing) (s : Settings) (before after : List Event) (desk : ℕ) (r : Request) (now : ℕ) (asked : ChangeOf) (result : Result Outcome Refused) → change_found (book_at s before).settings r ≡ Some asked → IsStepOf (book_at s before) r now asked
    → IsDone q (book_at s before) before desk asked.change now result after → IsStepAt q (book_at s before) r now (change_reply r asked.offset result) (book_at s after)
done-step q s before after desk r now asked result found steps (inl done) =
    inl (step-as (book_at s before) r now asked.offset _ result _ (book_at s after) steps.made done.1 (ap (book_at s) done.0.next ∙ at-one s before (event_by desk asked.change now)))
done-step q s before after desk r now asked result found steps (inr left) = left_as left.why
  where
    b : PlainBook
    b = book_at s before

    refused_as : IsAnswer (change_answer b asked.change now) (MayLackFor b asked.change now) (change_lacking b asked.change now) result → IsStep b r now (change_reply r asked.offset result) (book_at s after)
    refused_as (inl answered) =
        let why = err-of result left.refused in
        let stays : book_after_change b asked.change now ≡ b = steps.refused why.0 (sym answered ∙ why.1) in
        step-as b r now asked.offset _ result _ (book_at s after) steps.made answered (ap (book_at s) left.same ∙ sym stays)
    refused_as (inr lacks) = step-as b r now asked.offset _ result b (book_at s after) (steps.lacks lacks.0) lacks.1 (ap (book_at s) left.same)

    left_as : IsAnswer (change_answer b asked.change now) (MayLackFor b asked.change now) (change_lacking b asked.change now) result ⊎ (IsUnkept q b asked.change now × (result ≡ change_lacking b asked.change now))
        → IsStepAt q b r now (change_reply r asked.offset result) (book_at s after)
    left_as (inl answer) = inl (refused_as answer)
    left_as (inr unkept) = inr (record {
      asked = asked;
      found = found;
      unkept = unkept.0;
      told = ap (change_reply r asked.offset) unkept.1;
      same = ap (book_at s) left.same;
    })
