-- The step of a HEAD (tus 1.0.0, Core Protocol, HEAD).
use Rattle.std.specs.Prelude.{ℕ, Result, Ok, Err}
use Rattle.upload_book.specs.declared.head_row.HeadRow.{HeadRow}
use Rattle.upload_book.specs.declared.refusal.Refusal.{Refusal}
use Rattle.upload_book.specs.declared.settings.Numbers.{Numbers}
use Rattle.upload_book.specs.TenantBook.{TenantBook, visible_upload}
use Rattle.upload_book.specs.Upload.{Upload, head_row_of}

-- the row of an upload that is visible
abbrev pub row_of : Result Upload Refusal → Result HeadRow Refusal
row_of (Ok u) = Ok (head_row_of u)
row_of (Err refusal) = Err refusal

-- what is told of an id at a moment
abbrev pub look_answer : ℕ → ℕ → Numbers → TenantBook → Result HeadRow Refusal
look_answer id now n part = row_of (visible_upload part id now)
