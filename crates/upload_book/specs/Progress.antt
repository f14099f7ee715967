-- How far an upload is: its row without the texts.
use Rattle.std.specs.Prelude.{[]}
use Rattle.upload_book.specs.declared.head_row.HeadRow.{HeadRow}
use Rattle.upload_book.specs.declared.progress.Progress.{Progress}

-- a row that is so far, with no text
abbrev pub row_at : Progress → HeadRow
row_at s = record {
  kind = s.kind;
  offset = s.offset;
  declared = s.declared;
  metadata = [];
  concat = [];
  expires = s.expires;
}

-- how far an upload of this row is
abbrev pub progress_in : HeadRow → Progress
progress_in row = record {
  kind = row.kind;
  offset = row.offset;
  declared = row.declared;
  expires = row.expires;
}
