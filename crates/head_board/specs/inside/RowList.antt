-- How the rows of a tenant are listed.
use Rattle.std.specs.Prelude.{◌≡◌, ◌+◌, ◌≤◌, ℕ, List, map, vec_len, vec_capacity, All}
use Rattle.head_board.specs.declared.row_list.RowList.TheInside.{Inside}
use Rattle.head_board.specs.inside.BoardRow.{BoardRow, row_entry}
use Rattle.upload_book.specs.declared.head_row.HeadRow.{HeadRow}
use Rattle.upload_book.specs.inside.Texts.{is_reserved}
use Rattle.upload_book.specs.TenantBook.{Entry}

-- the rows under their ids, and for how many there is room
pub record ListedRows : Type 0 where
  pub rows : List (Entry HeadRow)
  pub room : ℕ

-- the rows that are kept so
abbrev pub listed : Inside → ListedRows
listed r = record { rows = map {A = Entry BoardRow} {B = Entry HeadRow} row_entry r.rows.items; room = r.room }

-- a row lies in a box, where there is one for each
abbrev pub IsPlaced : ℕ → Entry BoardRow → Type 0
IsPlaced room e = e.kept.boxed ≡ is_reserved room

-- There is room for all rows. Where they are at most 64, there are as many boxes: each row has one, and the others are spare.
pub record AreListed (r : Inside) : Type 0 where
  pub few : vec_len r.rows ≤ r.room
  pub rows : r.room ≤ vec_capacity r.rows
  pub boxed : All (IsPlaced r.room) r.rows.items
  pub spare : r.room ≤ 64 → r.room ≤ vec_capacity r.spare
  pub boxes : r.room ≤ 64 → vec_len r.rows + vec_len r.spare ≡ r.room
