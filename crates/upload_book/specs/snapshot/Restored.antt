-- What is put back of a book, piece by piece.
use Rattle.std.specs.Prelude.{ℕ, List, Option}
use Rattle.upload_book.specs.declared.head_row.Kind.{Kind}

-- A segment that is put back: the upload to which its bytes were sent, its origin, and the bytes, or none where they are
-- those of a segment of the same origin that stands.
pub record RestoredSegment : Type 0 where
  pub origin : ℕ
  pub bytes : Option (List ℕ)

-- an upload that is put back under its id
pub record RestoredUpload : Type 0 where
  pub id : ℕ
  pub kind : Kind
  pub declared : Option ℕ
  pub segments : List RestoredSegment
  pub metadata : List ℕ
  pub concat : List ℕ
  pub expires : Option ℕ
