-- Where the row of an upload lies.
use Rattle.std.specs.Prelude.{◌≡◌, ◌<◌, ◌≤◌, ℕ, Bool, true, false, Option, None, Some}
use Rattle.head_board.specs.declared.kept_row.RowPlace.{RowPlace}
use Rattle.head_board.specs.declared.kept_row.RowPlace.TheVariants.{Boxed, Shared}
use Rattle.upload_book.specs.declared.head_row.HeadRow.{HeadRow}

-- the row, wherever it lies
abbrev pub row_in : RowPlace → HeadRow
row_in (Boxed b) = b.place.value
row_in (Shared s) = s.row

-- it lies in a box that was there from the start
abbrev pub is_boxed : RowPlace → Bool
is_boxed (Boxed b) = true
is_boxed (Shared s) = false

-- The row of a new upload shares its texts, where a tenant may have so many uploads that there are no boxes for them.
abbrev pub IsRowFor : ℕ → Option HeadRow → HeadRow → Type 0
IsRowFor uploads None row = uploads ≤ 64
IsRowFor uploads (Some shared) row = (64 < uploads) × (shared ≡ row)
