-- Laws of what a book's steps change of its heads.
use Rattle.std.specs.Prelude.{◌≡◌, ℕ, ◌<◌, ◌≤◌, true, List, ◌++◌, map, Some, None}
use Rattle.upload_book.specs.declared.board_line.BoardLine.{BoardLine}
use Rattle.upload_book.specs.declared.head_row.HeadRow.{HeadRow}
use Rattle.upload_book.specs.declared.head_row.Name.{Name}
use Rattle.upload_book.specs.Events.{ChangeEvent, book_after_all}
use Rattle.upload_book.specs.Heads.{Heads, HeadPart, head_part_at, heads_of}
use Rattle.upload_book.specs.HeadSteps.{MayBecome, MayFollow}
use Rattle.upload_book.specs.Lawful.{IsLawful}
use Rattle.upload_book.specs.PlainBook.{PlainBook}
use Rattle.upload_book.specs.Settings.{AreSound, Settings}
use Rattle.upload_book.specs.TenantBook.{kept_in}
use Rattle.head_board.specs.Event.{Event}
use Rattle.head_board.specs.Events.{AllHappen, HaveHappened, book_at, change_event}
use Rattle.head_board.specs.Room.{has_room}

-- there is room for each line that may follow
abbrev pub LinesHaveRoom : Type 0
LinesHaveRoom = (h : Heads) (line : BoardLine) → MayFollow h line → has_room h line.change ≡ true

-- Whatever happens to a lawful book, it stays lawful; so the book of settings without a fault is lawful after all that
-- happened since its opening.
pub record BooksStayLawful : Type 0 where
  pub stays :
      (b : PlainBook) (events : List Event)
      → IsLawful b → AllHappen b events → IsLawful (book_after_all b (map {A = Event} {B = ChangeEvent} change_event events))
  pub opened :
      (s : Settings) (events : List Event)
      → AreSound s → HaveHappened s events → IsLawful (book_at s events)

-- What a later part of a tenant tells of an id: the ids that were given stay given; an upload which stands in both
-- does not become shorter, and its kind, its texts and its length, once that is known, stay; and none stands again
-- under an id that was given and under which none stands.
pub record IsLater (id : ℕ) (before after : HeadPart) : Type 0 where
  pub next : before.next ≤ after.next
  pub grows : (old new : HeadRow) → kept_in before.uploads id ≡ Some old → kept_in after.uploads id ≡ Some new → MayBecome old new
  pub gone : id < before.next → kept_in before.uploads id ≡ None → kept_in after.uploads id ≡ None

-- the same of a book, and the upload of a name
abbrev pub IsLaterBook : Name → PlainBook → PlainBook → Type 0
IsLaterBook name before after = IsLater name.id (head_part_at (heads_of before) name.tenant) (head_part_at (heads_of after) name.tenant)

-- what more events leave of each name
abbrev pub LaterEvents : Type 0
LaterEvents =
    (s : Settings) (events more : List Event) (name : Name) → HaveHappened s (events ++ more)
    → IsLaterBook name (book_at s events) (book_at s (events ++ more))
