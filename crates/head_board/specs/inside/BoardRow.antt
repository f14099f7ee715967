-- A row as a table keeps it.
use Rattle.std.specs.Prelude.{Bool}
use Rattle.upload_book.specs.declared.head_row.HeadRow.{HeadRow}
use Rattle.upload_book.specs.TenantBook.{Entry}

-- the row of an upload, and whether it lies in a box that was there from the start
pub record BoardRow : Type 0 where
  pub row : HeadRow
  pub boxed : Bool

-- the row under its id, wherever it lies
abbrev pub row_entry : Entry BoardRow → Entry HeadRow
row_entry e = record { id = e.id; kept = e.kept.row }
