-- The records of a book's snapshot, by which the book is put back.
use Rattle.std.specs.Prelude.{◌≡◌, ℕ, List, ◌++◌, map, replicate, Ok}
use Rattle.std.specs.List.{AllByRecursion}
use Rattle.journal_frames.specs.Frames.{Fits}
use Rattle.journal_records.specs.Records.{FitsPiece}
use Rattle.upload_book.specs.declared.change.Change.TheVariants as change
use Rattle.upload_book.specs.declared.restored.Restored.{Restored}
use Rattle.upload_book.specs.Events.{ChangeEvent}
use Rattle.upload_book.specs.PlainBook.{PlainBook, opening_book}
use Rattle.upload_book.specs.snapshot.Restore.{CanBePutBack}
use Rattle.upload_book.specs.snapshot.Snapshot.{snapshot_of}
use Rattle.book_replay.specs.Replay.{records_of, replayed}

-- ---- records

-- the event by which a piece is put back at a moment
abbrev pub piece_event : ℕ → Restored → ChangeEvent
piece_event now piece = record { change = change.Restore piece; now = now }

-- the records of pieces that are put back, all at one moment
abbrev pub piece_records : ℕ → List Restored → List (List ℕ)
piece_records now pieces = records_of (map {A = Restored} {B = ChangeEvent} (piece_event now) pieces)

-- those of the pieces of a book's snapshot
abbrev pub snapshot_records : ℕ → PlainBook → List (List ℕ)
snapshot_records now b = piece_records now (snapshot_of b)

-- a record behind room for the header of its frame
abbrev pub behind_room : List ℕ → List ℕ
behind_room payload = replicate 24 0 ++ payload

-- These are the records of a book's snapshot, each behind room for the header of its frame. Frames hold them, and they make
-- of the book at the start, which has the same settings, this very book.
pub record IsSnapshot (now : ℕ) (b : PlainBook) (rooms : List (List ℕ)) : Type 0 where
  pub records : rooms ≡ map behind_room (snapshot_records now b)
  pub fits : AllByRecursion Fits (snapshot_records now b)
  pub made : (number : ℕ) → replayed number (opening_book b.settings) (snapshot_records now b) ≡ Ok b

-- ---- while they are made

-- a record holds the numbers of a piece, if a book may be asked to put it back
abbrev pub HasNumbers : Restored → Type 0
HasNumbers piece = (tenants : ℕ) → CanBePutBack tenants piece → FitsPiece piece

-- the records of these pieces were put behind others, each behind its room; frames hold them, and records their numbers
pub record ArePut (now : ℕ) (pieces : List Restored) (before after : List (List ℕ)) : Type 0 where
  pub records : after ≡ before ++ map behind_room (piece_records now pieces)
  pub fits : AllByRecursion Fits (piece_records now pieces)
  pub numbers : AllByRecursion HasNumbers pieces
