-- What is seen of a board and of its readers.
use Rattle.std.specs.Prelude.{◌≡◌, ℕ, Bool, false, List, Result, Ok, Err, ⊤}
use mathlib.Core.List.{IsPrefix}
use Rattle.logbook.specs.Pages.{Book}
use Rattle.upload_book.specs.declared.head_row.HeadRow.{HeadRow}
use Rattle.upload_book.specs.declared.head_row.Name.{Name}
use Rattle.upload_book.specs.declared.progress.Progress.{Progress}
use Rattle.upload_book.specs.declared.refusal.Refusal.{Refusal}
use Rattle.upload_book.specs.Heads.{heads_of}
use Rattle.upload_book.specs.Lawful.{IsLawful}
use Rattle.upload_book.specs.Look.{look_answer}
use Rattle.upload_book.specs.PlainBook.{answer_of}
use Rattle.upload_book.specs.Progress.{progress_in}
use Rattle.upload_book.specs.Settings.{Settings}
use Rattle.head_board.specs.Event.{Event}
use Rattle.head_board.specs.Events.{HaveHappened, book_at}
use Rattle.head_board.specs.Expired.{NoneHasExpired}
use Rattle.head_board.specs.Totals.{totals_of}
use Rattle.head_board.specs.declared.totals.Totals.{Totals}

-- The settings of the book, the log of the events that were shown, and all of these.
pub record BoardView : Type 0 where
  pub settings : Settings
  pub log : Book
  pub events : List Event

-- The same at a reader, which has seen some of the events; and whether it has missed the board. It has from
-- the first entry on that found that the board had been let go, or showed fewer events than the reader had seen. No entry does while there is the
-- board.
pub record ReaderView : Type 0 where
  pub settings : Settings
  pub log : Book
  pub events : List Event
  pub missed : Bool

-- a reader that has seen all events which were shown
abbrev pub new_reader : BoardView → ReaderView
new_reader b = record { settings = b.settings; log = b.log; events = b.events; missed = false }

-- what was read of an upload: a row, which lies in its place, or why there is none
abbrev pub row_read : Result ⊤ Refusal → HeadRow → Result HeadRow Refusal
row_read (Ok read) row = Ok row
row_read (Err why) row = Err why

-- Who has seen some events reads a head: the answer is the one that the plain book, which is lawful, gives after events that
-- begin with these.
pub record ReadsHead (s : Settings) (seen events : List Event) (name : Name) (now : ℕ) (row : Result HeadRow Refusal) : Type 0 where
  pub begins : IsPrefix seen events
  pub happened : HaveHappened s events
  pub lawful : IsLawful (book_at s events)
  pub tells : row ≡ answer_of (book_at s events) name.tenant (look_answer name.id now)

-- how far an upload is whose row was read, or why there is none
abbrev pub progress_read : Result HeadRow Refusal → Result Progress Refusal
progress_read (Ok row) = Ok (progress_in row)
progress_read (Err why) = Err why

-- Who has seen some events reads how far an upload is: as the plain book tells after events that begin with these.
pub record ReadsProgress (s : Settings) (seen events : List Event) (name : Name) (now : ℕ) (progress : Result Progress Refusal) : Type 0 where
  pub begins : IsPrefix seen events
  pub happened : HaveHappened s events
  pub lawful : IsLawful (book_at s events)
  pub tells : progress ≡ progress_read (answer_of (book_at s events) name.tenant (look_answer name.id now))

-- Who has seen some events reads that no upload has expired at a moment: none has after events that begin with these.
pub record SeesNoneExpired (s : Settings) (seen events : List Event) (now : ℕ) : Type 0 where
  pub begins : IsPrefix seen events
  pub happened : HaveHappened s events
  pub lawful : IsLawful (book_at s events)
  pub none : NoneHasExpired now (heads_of (book_at s events))

-- Who has seen some events reads totals: those of the plain book after events that begin with these.
pub record ReadsTotals (s : Settings) (seen events : List Event) (totals : Totals) : Type 0 where
  pub begins : IsPrefix seen events
  pub happened : HaveHappened s events
  pub lawful : IsLawful (book_at s events)
  pub tells : totals ≡ totals_of (heads_of (book_at s events))
