-- What happened to a book that a board shows: changes that it accepted, one after another.
use Rattle.std.specs.Prelude.{◌≡◌, List, [], ◌∷◌, length, map, Some, ⊤}
use Rattle.upload_book.specs.Change.{CanBeMade, line_of}
use Rattle.upload_book.specs.declared.board_line.BoardLine.{BoardLine}
use Rattle.upload_book.specs.Events.{ChangeEvent, book_after_all, book_after_event}
use Rattle.upload_book.specs.declared.head_note.HeadNote.{HeadNote}
use Rattle.upload_book.specs.HeadNotes.{IsNoteOf}
use Rattle.upload_book.specs.laws.Steps.{LeadsTo}
use Rattle.upload_book.specs.PlainBook.{PlainBook, opening_book}
use Rattle.upload_book.specs.Ready.{change_in, moment_in}
use Rattle.upload_book.specs.Settings.{Settings}
use Rattle.head_board.specs.declared.event.Coming.{Coming}
use Rattle.head_board.specs.Event.{Event}

-- the event that will have happened once a change is made
abbrev pub event_of : Coming → Event
event_of coming = record { desk = coming.desk; change = change_in coming.ready.now; now = moment_in coming.ready.now }

-- the change, with the bytes that it carries and its moment
abbrev pub change_event : Event → ChangeEvent
change_event e = record { change = e.change; now = e.now }

-- the book of these settings after events, from its opening on
abbrev pub book_at : Settings → List Event → PlainBook
book_at s events = book_after_all (opening_book s) (map {A = Event} {B = ChangeEvent} change_event events)

-- the line tells what an event changes of the heads of a book, which accepts it
pub record IsLineOf (b : PlainBook) (e : Event) (line : BoardLine) : Type 0 where
  pub is : line_of b e.change e.now ≡ Some line
  pub leads : LeadsTo b line (book_after_event b (change_event e))

-- the note tells what an event changes of the heads of a book, which accepts it
abbrev pub IsNoteOfEvent : PlainBook → Event → HeadNote → Type 0
IsNoteOfEvent b e note = IsNoteOf b e.change e.now note

-- the event happened to the book: that may be asked for its change, and accepted it, so it has a line
pub record Happens (b : PlainBook) (e : Event) : Type 0 where
  pub asked : CanBeMade (length b.settings.tenants) e.change
  pub line : BoardLine
  pub told : IsLineOf b e line

-- each of the events happened to the book after those before it
abbrev pub AllHappen : PlainBook → List Event → Type 0
AllHappen b [] = ⊤
AllHappen b (e ∷ events) = Happens b e × AllHappen (book_after_event b (change_event e)) events

-- the events are what may have happened to a book of these settings since its opening
abbrev pub HaveHappened : Settings → List Event → Type 0
HaveHappened s events = AllHappen (opening_book s) events
