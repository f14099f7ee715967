-- What a step does at a store, and which event it adds to what happened there.
use Rattle.std.specs.Prelude.{◌≡◌, ◌⊎◌, ℕ, List, ◌++◌, ◌∷◌, [], Option, Some, None, IsSome, Result, Ok, Err, IsErr, IsOk, length, ⊤}
use Rattle.upload_book.specs.Change.{CanBeMade, MayLackFor, change_answer, change_lacking}
use Rattle.upload_book.specs.declared.append.Refused.{Refused}
use Rattle.upload_book.specs.declared.change.Change.{Change}
use Rattle.upload_book.specs.declared.change.Change.TheVariants as change
use Rattle.upload_book.specs.declared.change.Outcome.{Outcome}
use Rattle.upload_book.specs.declared.sweep.Swept.{Swept}
use Rattle.upload_book.specs.PlainBook.{PlainBook}
use Rattle.upload_book.specs.Refusal.{IsAnswer}
use Rattle.upload_book.specs.Settings.{Settings}
use Rattle.upload_book.specs.Sweep.{sweep_answer}
use Rattle.tus_steps.specs.Changing.{change_found, change_reply}
use Rattle.tus_steps.specs.declared.requested_change.ChangeOf.{ChangeOf}
use Rattle.tus_steps.specs.declared.reply.Reply.{Reply}
use Rattle.tus_steps.specs.Request.{Request}
use Rattle.tus_steps.specs.Step.{IsStep}
use Rattle.head_board.specs.Event.{Event}
use Rattle.head_board.specs.Events.{book_at}
use Rattle.tus_shared.specs.declared.again_fault.AgainFault.{AgainFault}
use Rattle.tus_shared.specs.declared.again_fault.AgainFault.TheVariants as again
use Rattle.tus_shared.specs.declared.unqueued.Unqueued.{Unqueued}
use Rattle.tus_shared.specs.Journal.{IsUnqueued, Queueing}

-- the change of a desk is the next event
abbrev pub IsNextEvent : List Event → ℕ → Change → ℕ → List Event → Type 0
IsNextEvent before desk change now after = after ≡ before ++ record { desk = desk; change = change; now = now } ∷ []

-- the book accepts the change, and it is the next event
pub record IsMade (b : PlainBook) (before : List Event) (desk : ℕ) (change : Change) (now : ℕ) (after : List Event) : Type 0 where
  pub accepted : IsOk (change_answer b change now)
  pub next : IsNextEvent before desk change now after

-- There is a journal, and the record of the change, which the book would accept, is not queued.
pub record IsUnkept (q : Queueing) (b : PlainBook) (change : Change) (now : ℕ) : Type 0 where
  pub journalled : IsSome q.journal
  pub accepted : IsOk (change_answer b change now)
  pub why : Unqueued
  pub unqueued : IsUnqueued q change now why

-- The change is refused, by the answer of the plain book; or since memory lacks for it, or its record is not queued, and then
-- as Memory, which tells of a PATCH when its upload expires. Nothing happens.
pub record IsLeft (q : Queueing) (b : PlainBook) (before : List Event) (change : Change) (now : ℕ) (result : Result Outcome Refused) (after : List Event) : Type 0 where
  pub refused : IsErr result
  pub why :
      IsAnswer (change_answer b change now) (MayLackFor b change now) (change_lacking b change now) result
      ⊎ (IsUnkept q b change now × (result ≡ change_lacking b change now))
  pub same : after ≡ before

-- what a change does at a store whose book is this one: it is made, with the answer of the plain book, or refused
abbrev pub IsDone : Queueing → PlainBook → List Event → ℕ → Change → ℕ → Result Outcome Refused → List Event → Type 0
IsDone q b before desk change now result after =
    (IsMade b before desk change now after × (result ≡ change_answer b change now)) ⊎ IsLeft q b before change now result after

-- why a change is not made again: a book may not be asked for it, or refuses it; or records wait
abbrev pub IsNotMade : Settings → PlainBook → Change → ℕ → AgainFault → Type 0
IsNotMade s b change now again.Waiting = ⊤
IsNotMade s b change now again.Change = ¬ (CanBeMade (length s.tenants) change)
IsNotMade s b change now (again.Refused why) = IsAnswer (change_answer b change now) (MayLackFor b change now) (change_lacking b change now) (Err why)

-- what is done of a change whose record stands in the journal: it is made, or, for a reason, nothing happens
abbrev pub IsDoneAgain : Settings → List Event → ℕ → Change → ℕ → Result ⊤ AgainFault → List Event → Type 0
IsDoneAgain s before desk change now (Ok done) after = IsMade (book_at s before) before desk change now after
IsDoneAgain s before desk change now (Err why) after = IsNotMade s (book_at s before) change now why × (after ≡ before)

-- What a request adds to what happened: its change is made or refused, and the reply tells which; where it asks for
-- none, nothing happens.
abbrev pub AddsBy : Queueing → Option ChangeOf → PlainBook → List Event → ℕ → Request → ℕ → Reply → List Event → Type 0
AddsBy q (Some asked) b before desk r now reply after =
    (result : Result Outcome Refused) × (reply ≡ change_reply r asked.offset result) × IsDone q b before desk asked.change now result after
AddsBy q None b before desk r now reply after = after ≡ before

-- what the change of a request adds, if it asks for one
abbrev pub AddsChange : Queueing → Settings → List Event → ℕ → Request → ℕ → Reply → List Event → Type 0
AddsChange q s before desk r now reply after = AddsBy q (change_found s r) (book_at s before) before desk r now reply after

-- The record of the change that a request asks for is not queued: it is refused as where memory lacks for it, and the book
-- stays.
pub record IsUnkeptStep (q : Queueing) (b : PlainBook) (r : Request) (now : ℕ) (reply : Reply) (after : PlainBook) : Type 0 where
  pub asked : ChangeOf
  pub found : change_found b.settings r ≡ Some asked
  pub unkept : IsUnkept q b asked.change now
  pub told : reply ≡ change_reply r asked.offset (change_lacking b asked.change now)
  pub same : after ≡ b

-- The step of a request: the plain book's, or, with a journal alone, that. Without one it is the plain book's.
abbrev pub IsStepAt : Queueing → PlainBook → Request → ℕ → Reply → PlainBook → Type 0
IsStepAt q b r now reply after = IsStep b r now reply after ⊎ IsUnkeptStep q b r now reply after

-- what a sweep does: it is made, and tells what it ended
pub record IsSweep (s : Settings) (before : List Event) (desk now : ℕ) (swept : Swept) (after : List Event) : Type 0 where
  pub answer : swept ≡ sweep_answer (book_at s before) now
  pub next : IsNextEvent before desk change.Sweep now after

-- so it does, or, with a journal alone, its record is not queued, and nothing happens
abbrev pub IsSweepAt : Queueing → Settings → List Event → ℕ → ℕ → Option Swept → List Event → Type 0
IsSweepAt q s before desk now (Some swept) after = IsSweep s before desk now swept after
IsSweepAt q s before desk now None after = IsUnkept q (book_at s before) change.Sweep now × (after ≡ before)
