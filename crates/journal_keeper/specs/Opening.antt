-- A store whose changes are made again of the records that a journal has.
use Rattle.std.specs.Prelude.{◌≡◌, ◌≢◌, ℕ, List, [], ◌∷◌, ◌++◌, All, map, Result, Ok, Err, ⊤}
use mathlib.Core.List.{IsPrefix}
use Rattle.book_replay.specs.Replay.{replayed}
use Rattle.journal_frames.specs.Frames.{recovered}
use Rattle.journal_records.specs.Records.{record_bytes}
use Rattle.upload_book.specs.declared.refusal.Refusal.TheVariants as refusal
use Rattle.upload_book.specs.PlainBook.{PlainBook, opening_book}
use Rattle.upload_book.specs.Settings.{Settings}
use Rattle.head_board.specs.Event.{Event}
use Rattle.upload_book.specs.Events.{ChangeEvent}
use Rattle.head_board.specs.Events.{HaveHappened, book_at, change_event}
use Rattle.tus_shared.specs.Desk.{Desk}
use Rattle.tus_shared.specs.Finals.{AreOpenings, Opening}
use Rattle.tus_shared.specs.Restoring.{RestoreNothing}
use Rattle.tus_shared.specs.declared.again_fault.AgainFault.{AgainFault}
use Rattle.tus_shared.specs.declared.again_fault.AgainFault.TheVariants as again
use Rattle.journal_keeper.specs.declared.fault.ReopenFault.{ReopenFault}
use Rattle.journal_keeper.specs.declared.fault.ReopenFault.TheVariants.{Record, Memory, Waiting}

-- the change of a record is the next event, made at this desk
pub record IsMadeAgain (desk : ℕ) (bytes : List ℕ) (before after : List Event) : Type 0 where
  pub event : Event
  pub desk_is : event.desk ≡ desk
  pub record_is : record_bytes event.now event.change ≡ bytes
  pub next : after ≡ before ++ event ∷ []

-- Why no store is made again of records of which this book is made (`book_replay/specs/Replay`): a record is told where it is
-- the first that has no book after it. Memory may be lacking at each, and other records may wait.
abbrev pub IsReopenFault : Result PlainBook ℕ → ReopenFault → Type 0
IsReopenFault made (Record number) = made ≡ Err number
IsReopenFault made Memory = ⊤
IsReopenFault made Waiting = ⊤

-- it lies in something else than the records: none of them is refused
abbrev pub IsOutsideRecords : ReopenFault → Type 0
IsOutsideRecords (Record number) = ⊥
IsOutsideRecords Memory = ⊤
IsOutsideRecords Waiting = ⊤

-- The book is the plain book after a list of events, which happened to a book of these settings since its opening, one after
-- another. The list begins with all that any of the desks was told to be kept, and with these events, which were kept. What comes
-- behind them are the next of those that the keeper tried to keep, in their order, and restores nothing. Nothing happened to the
-- book but what the records of the file make.
pub record IsRecovered (key : ℕ) (file : List ℕ) (s : Settings) (kept tried : List Event) (desks : List Desk) (book : PlainBook) : Type 0 where
  pub events : List Event
  pub begins : All (λ (d : Desk). IsPrefix d.kept events) desks
  pub behind : IsPrefix kept events
  pub within : IsPrefix events tried
  pub plain : RestoreNothing behind.0
  pub happened : HaveHappened s events
  pub is : book ≡ book_at s events
  pub made : replayed 1 (opening_book s) (recovered key file) ≡ Ok book

-- the change is not made again whatever memory there is, and whatever waits
abbrev pub IsFinal : AgainFault → Type 0
IsFinal again.Waiting = ⊥
IsFinal again.Change = ⊤
IsFinal (again.Refused why) = why.refusal ≢ refusal.Memory

-- an opening of a store with these settings: the events by which its book was made again, and those since
abbrev pub opening_with : Settings → List Event → List Event → Opening
opening_with s again since = record {
  settings = s;
  again = map {A = Event} {B = ChangeEvent} change_event again;
  since = map {A = Event} {B = ChangeEvent} change_event since;
}

-- Where a crash ended an opening that goes on from earlier ones, and the book that was recovered is made again by events: the
-- opening with these goes on from that one, in which all happened that was recovered. So each final upload that a store ever
-- has was joined by an event of one of its openings (`FinalsOfOpenings` of `tus_shared`).
abbrev pub RecoveredGoOn : Type 0
RecoveredGoOn =
    (key : ℕ) (file : List ℕ) (s : Settings) (kept tried again before since : List Event) (desks : List Desk) (earlier : List Opening)
    → (recovered : IsRecovered key file s kept tried desks (book_at s again)) → kept ≡ before ++ since
    → AreOpenings (opening_with s before since ∷ earlier)
    → AreOpenings (opening_with s again [] ∷ opening_with s before (since ++ recovered.behind.0) ∷ earlier)
