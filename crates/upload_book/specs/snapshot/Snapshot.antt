-- A snapshot of a book: the pieces by which it is put back.
use Rattle.std.specs.Prelude.{◌≡◌, ℕ, ◌+◌, List, [], ◌∷◌, ◌++◌, length, Some, None, is_some, if◌then◌else◌, ⊤}
use Rattle.upload_book.specs.Lawful.{IsLawful}
use Rattle.upload_book.specs.PlainBook.{PlainBook, opening_book}
use Rattle.upload_book.specs.snapshot.Restore.{CanBePutBack, book_after_piece, bytes_from, piece_refusal, sent_in, sent_of}
use Rattle.upload_book.specs.declared.restored.Restored.TheVariants as piece
use Rattle.upload_book.specs.declared.restored.Restored.{Restored}
use Rattle.upload_book.specs.snapshot.Restored.{RestoredSegment, RestoredUpload}
use Rattle.upload_book.specs.TenantBook.{Entry, TenantBook}
use Rattle.upload_book.specs.Upload.{Upload}

-- segments as they are put back behind those that stand: each brings its bytes, unless one of its origin stands
abbrev pub segments_kept : List (ℕ × List ℕ) → List (ℕ × List ℕ) → List RestoredSegment
segments_kept standing [] = []
segments_kept standing (s ∷ sent) =
    record { origin = s.0; bytes = if is_some (bytes_from standing s.0) then None else Some s.1 }
    ∷ segments_kept (standing ++ s ∷ []) sent

-- an upload as it is put back behind those before it
abbrev pub upload_kept : List (Entry Upload) → Entry Upload → RestoredUpload
upload_kept before e = record {
  id = e.id;
  kind = e.kept.kind;
  declared = e.kept.declared;
  segments = segments_kept (sent_in before) (sent_of e);
  metadata = e.kept.metadata;
  concat = e.kept.concat;
  expires = e.kept.expires;
}

-- the uploads of the tenant at a place, in their order, behind those before them: each as the tenant's next one
abbrev pub uploads_kept : ℕ → List (Entry Upload) → List (Entry Upload) → List Restored
uploads_kept tenant before [] = []
uploads_kept tenant before (e ∷ entries) =
    piece.Next tenant e.id ∷ piece.Upload tenant (upload_kept before e) ∷ uploads_kept tenant (before ++ e ∷ []) entries

-- the parts of the tenants from a place on: of each its uploads, and then its next id
abbrev pub parts_kept : ℕ → List TenantBook → List Restored
parts_kept tenant [] = []
parts_kept tenant (part ∷ parts) =
    uploads_kept tenant [] part.uploads ++ piece.Next tenant part.next ∷ parts_kept (tenant + 1) parts

-- the snapshot of a book: the parts of all tenants, and then the totals
abbrev pub snapshot_of : PlainBook → List Restored
snapshot_of b = parts_kept 0 b.tenants ++ piece.Totals b.released ∷ []

-- the book after pieces, one after another
abbrev pub book_after_pieces : PlainBook → List Restored → PlainBook
book_after_pieces b [] = b
book_after_pieces b (first ∷ others) = book_after_pieces (book_after_piece b first) others

-- the book after those before it may be asked to put each piece back, and accepts it
abbrev pub AreAccepted : PlainBook → List Restored → Type 0
AreAccepted b [] = ⊤
AreAccepted b (first ∷ others) =
    CanBePutBack (length b.tenants) first × (piece_refusal b first ≡ None) × AreAccepted (book_after_piece b first) others

-- The snapshot of a lawful book puts it back: the opening book accepts each of its pieces, and is that book after them.
-- Whatever is put back, a lawful book stays lawful.
pub record SnapshotsRestore : Type 0 where
  pub lawful : (b : PlainBook) (restored : Restored) → IsLawful b → CanBePutBack (length b.tenants) restored → IsLawful (book_after_piece b restored)
  pub accepted : (b : PlainBook) → IsLawful b → AreAccepted (opening_book b.settings) (snapshot_of b)
  pub restored : (b : PlainBook) → IsLawful b → book_after_pieces (opening_book b.settings) (snapshot_of b) ≡ b
