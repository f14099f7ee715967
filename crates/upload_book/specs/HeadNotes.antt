-- What a note stands for: the line by which a change changes heads.
use Rattle.std.specs.Prelude.{◌≡◌, ◌<◌, ◌≤◌, ℕ, Option, Some, option_map, ⊤}
use Rattle.upload_book.specs.declared.board_line.BoardLine.{BoardLine}
use Rattle.upload_book.specs.declared.board_line.HeadChange.{HeadChange}
use Rattle.upload_book.specs.declared.board_line.HeadChange.TheVariants as head
use Rattle.upload_book.specs.declared.change.Change.{Change}
use Rattle.upload_book.specs.declared.head_note.Growth.{Growth}
use Rattle.upload_book.specs.declared.head_note.HeadNote.{HeadNote}
use Rattle.upload_book.specs.declared.head_note.NotedChange.{NotedChange}
use Rattle.upload_book.specs.declared.head_note.NotedChange.TheVariants.{Created, Shared, Grown, Gone, Swept, Next, Totals}
use Rattle.upload_book.specs.declared.head_row.HeadRow.{HeadRow}
use Rattle.upload_book.specs.Change.{book_after_change, line_of}
use Rattle.upload_book.specs.Heads.{Heads, head_part_at, heads_of}
use Rattle.upload_book.specs.laws.Steps.{LeadsTo}
use Rattle.upload_book.specs.PlainBook.{PlainBook}
use Rattle.upload_book.specs.TenantBook.{kept_in}

-- the row of an upload that is so far now: its kind and its texts stay
abbrev pub row_grown : Growth → HeadRow → HeadRow
row_grown growth row = record row { offset = growth.offset; declared = growth.declared; expires = growth.expires }

-- the row of a tenant's new upload is put under its next id
abbrev pub put_new : Heads → ℕ → HeadRow → HeadChange
put_new h tenant row = head.Put (record { tenant = tenant; id = (head_part_at h tenant).next }) row

-- What changes of these heads by what is noted, if anything does: a new row stands under the next id of its tenant,
-- and the upload that grew has a row.
abbrev pub change_told : Heads → NotedChange → Option HeadChange
change_told h (Created tenant row) = Some (put_new h tenant row)
change_told h (Shared tenant row) = Some (put_new h tenant row)
change_told h (Grown name growth) =
    option_map (λ (row : HeadRow). head.Put name (row_grown growth row)) (kept_in (head_part_at h name.tenant).uploads name.id)
change_told h (Gone name) = Some (head.Gone name)
change_told h (Swept now) = Some (head.Swept now)
change_told h (Next name) = Some (head.Next name)
change_told h Totals = Some head.Totals

-- the line that a note stands for on these heads, if it stands for one
abbrev pub line_told : Heads → HeadNote → Option BoardLine
line_told h note =
    option_map (λ (change : HeadChange). record { change = change; accounts = note.accounts }) (change_told h note.change)

-- The texts of a new upload are shared exactly where a tenant may have more than 64 uploads: there is no box for them there.
abbrev pub SharesTexts : ℕ → NotedChange → Type 0
SharesTexts uploads (Created tenant row) = uploads ≤ 64
SharesTexts uploads (Shared tenant row) = 64 < uploads
SharesTexts uploads change = ⊤

-- The note is that of a change at a moment, which the book accepts: on the heads of the book it stands for the line of
-- the change, and that leads to the book after it. Its texts are shared where there is no box for them.
pub record IsNoteOf (b : PlainBook) (change : Change) (now : ℕ) (note : HeadNote) : Type 0 where
  pub line : BoardLine
  pub is : line_of b change now ≡ Some line
  pub told : line_told (heads_of b) note ≡ Some line
  pub texts : SharesTexts b.settings.numbers.uploads note.change
  pub leads : LeadsTo b line (book_after_change b change now)
