-- What records of changes make of a book.
use Rattle.std.specs.Prelude.{ℕ, ◌+◌, ◌≤◌, Bool, ◌&&◌, List, [], ◌∷◌, length, map, Option, Some, None, option_map, option_and_then, Result, Ok, Err, IsOk, is_ok, if◌then◌else◌, ⊤}
use Rattle.journal_records.specs.Reading.{record_at}
use Rattle.journal_records.specs.Records.{record_bytes, FitsChange}
use Rattle.upload_book.specs.Change.{CanBeMade, change_answer}
use Rattle.upload_book.specs.declared.change.Change.{Change}
use Rattle.upload_book.specs.Events.{ChangeEvent, book_after_event}
use Rattle.upload_book.specs.PlainBook.{PlainBook}
use Rattle.book_replay.specs.Made.{can_be_made}

-- ---- records

-- the record of an event
abbrev pub record_of : ChangeEvent → List ℕ
record_of e = record_bytes e.now e.change

abbrev pub records_of : List ChangeEvent → List (List ℕ)
records_of events = map {A = ChangeEvent} {B = List ℕ} record_of events

-- the event of a record, where the bytes are one
abbrev pub event_in : List ℕ → Option ChangeEvent
event_in bytes = option_map {T = ℕ × Change} {U = ChangeEvent} (λ read. record { change = read.1; now = read.0 }) (record_at bytes)

-- ---- replay

-- a book may be asked for the event's change, and accepts it
abbrev pub accepts : PlainBook → ChangeEvent → Bool
accepts b e = can_be_made (length b.settings.tenants) e.change && is_ok (change_answer b e.change e.now)

-- the book after an event, where it accepts that
abbrev pub after_accepted : PlainBook → ChangeEvent → Option PlainBook
after_accepted b e = if accepts b e then Some (book_after_event b e) else None

-- the book after the event of a record, where the bytes are one and the book accepts it
abbrev pub after_record : PlainBook → List ℕ → Option PlainBook
after_record b bytes = option_and_then (after_accepted b) (event_in bytes)

-- what comes next after the record of this number, which has to have a book after it
abbrev pub goes_on : ℕ → Option PlainBook → (PlainBook → Result PlainBook ℕ) → Result PlainBook ℕ
goes_on number None next = Err number
goes_on number (Some after) next = next after

-- The book after all of the records, of which the first has this number; or the number of the first record that has no
-- book after it.
abbrev pub replayed : ℕ → PlainBook → List (List ℕ) → Result PlainBook ℕ
replayed number b [] = Ok b
replayed number b (bytes ∷ records) = goes_on number (after_record b bytes) (λ after. replayed (number + 1) after records)

-- ---- what happened

-- An event happens to a book: that may be asked for it and accepts it. Its moment is one that dates can name, and its
-- numbers are such that a record holds them.
pub record Happens (b : PlainBook) (e : ChangeEvent) : Type 0 where
  pub asked : CanBeMade (length b.settings.tenants) e.change
  pub accepted : IsOk (change_answer b e.change e.now)
  pub moment : e.now ≤ 253402300799
  pub fits : FitsChange e.change

-- each of the events happens to the book after those before it
abbrev pub AllHappen : PlainBook → List ChangeEvent → Type 0
AllHappen b [] = ⊤
AllHappen b (e ∷ events) = Happens b e × AllHappen (book_after_event b e) events
