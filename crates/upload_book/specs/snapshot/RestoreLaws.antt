-- What a piece that is put back leaves of a book's uploads, and what it adds.
use Rattle.std.specs.Prelude.{◌≡◌, ◌⊎◌, ℕ, List, None, Some}
use Rattle.upload_book.specs.declared.head_row.Name.{Name}
use Rattle.upload_book.specs.Events.{HasUpload, StandsAs}
use Rattle.upload_book.specs.PlainBook.{PlainBook, tenant_book}
use Rattle.upload_book.specs.snapshot.Restore.{book_after_piece, piece_refusal, sent_back, sent_in, upload_back}
use Rattle.upload_book.specs.declared.restored.Restored.TheVariants as piece
use Rattle.upload_book.specs.declared.restored.Restored.{Restored}
use Rattle.upload_book.specs.snapshot.Restored.{RestoredUpload}
use Rattle.upload_book.specs.Upload.{Upload}

-- The piece puts this upload back under its name: the book accepts it, and the upload has the segments that it brings, or
-- whose bytes stand.
pub record IsPutBack (b : PlainBook) (restored : Restored) (name : Name) (u : Upload) : Type 0 where
  pub upload : RestoredUpload
  pub is : restored ≡ piece.Upload name.tenant upload
  pub accepted : piece_refusal b restored ≡ None
  pub id : name.id ≡ upload.id
  pub sent : List (ℕ × List ℕ)
  pub found : sent_back (sent_in (tenant_book b name.tenant).uploads) upload.segments ≡ Some sent
  pub made : u ≡ upload_back upload sent

-- Whatever is put back, each upload that stands stays as it is; and each upload of the book then was there, or is the one
-- that was put back.
pub record PiecesLeave : Type 0 where
  pub stays : (b : PlainBook) (restored : Restored) (name : Name) (u : Upload) → StandsAs b name u → StandsAs (book_after_piece b restored) name u
  pub comes : (b : PlainBook) (restored : Restored) (name : Name) (u : Upload) → HasUpload (book_after_piece b restored) name u → HasUpload b name u ⊎ IsPutBack b restored name u
