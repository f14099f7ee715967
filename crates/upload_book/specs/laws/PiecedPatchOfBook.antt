-- A PATCH of a book whose bytes come in pieces.
use Rattle.std.specs.Prelude.{◌≡◌, ◌<◌, ◌≤◌, ℕ, List, [], ◌∷◌, length, take, drop, All, IsOk, Result, Ok, Err}
use Rattle.upload_book.specs.Append.{append_answer, part_after_append}
use Rattle.upload_book.specs.Chunk.{Chunk}
use Rattle.upload_book.specs.declared.append.Appended.{Appended}
use Rattle.upload_book.specs.declared.append.Refused.{Refused}
use Rattle.upload_book.specs.declared.head_row.Name.{Name}
use Rattle.upload_book.specs.laws.Steps.{LastFinishes, later_part}
use Rattle.upload_book.specs.Lawful.{IsLawful}
use Rattle.upload_book.specs.laws.PiecedPatch.{Piece, ahead_in, first_piece}
use Rattle.upload_book.specs.PlainBook.{PlainBook, answer_of, book_after}

-- what a PATCH of a book comes to: its answer, and the book after it
pub record PatchedBook : Type 0 where
  pub answer : Result Appended Refused
  pub book : PlainBook

-- as one
abbrev pub book_as_one : Name → Chunk → ℕ → PlainBook → PatchedBook
book_as_one name chunk now b = record {
  answer = answer_of b name.tenant (append_answer name.id chunk now b.charged);
  book = book_after b name.tenant (part_after_append name.id chunk now b.charged);
}

abbrev pub book_goes_on : Result Appended Refused → PlainBook → PatchedBook → PatchedBook
book_goes_on (Ok appended) middle rest = rest
book_goes_on (Err why) middle rest = record { answer = Err why; book = middle }

-- in pieces, each at its moment, and then the rest of its bytes at a moment
abbrev pub book_in_pieces : Name → Chunk → List Piece → ℕ → PlainBook → PatchedBook
book_in_pieces name chunk [] now b = book_as_one name chunk now b
book_in_pieces name chunk (p ∷ pieces) now b =
    let first = take p.len chunk.bytes in
    let later = drop p.len chunk.bytes in
    let piece = first_piece chunk first later in
    let middle = book_after b name.tenant (part_after_append name.id piece p.now b.charged) in
    book_goes_on (answer_of b name.tenant (append_answer name.id piece p.now b.charged)) middle
    (book_in_pieces name (later_part chunk first later) pieces now middle)

-- the same of a lawful book, whose totals go on from piece to piece
abbrev pub PiecedPatchOfBook : Type 0
PiecedPatchOfBook =
    (b : PlainBook) (name : Name) (chunk : Chunk) (pieces : List Piece) (now : ℕ) → IsLawful b → name.tenant < length b.tenants
    → All (λ (p : Piece). p.now ≤ now) pieces → LastFinishes b.settings.numbers (ahead_in pieces) (length chunk.bytes)
    → IsOk (answer_of b name.tenant (append_answer name.id chunk now b.charged))
    → book_in_pieces name chunk pieces now b ≡ book_as_one name chunk now b
