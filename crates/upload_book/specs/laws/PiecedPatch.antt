-- A PATCH whose bytes come in pieces. Each piece is added to the upload when it has come, and how many bytes are still to
-- come is known then.
use Rattle.std.specs.Prelude.{◌≡◌, ◌≤◌, ◌+◌, ℕ, List, [], ◌∷◌, length, sum_by, take, drop, All, IsOk, None, Result, Ok, Err}
use Rattle.upload_book.specs.Append.{append_answer, part_after_append}
use Rattle.upload_book.specs.Chunk.{Chunk}
use Rattle.upload_book.specs.declared.append.Appended.{Appended}
use Rattle.upload_book.specs.declared.append.Refused.{Refused}
use Rattle.upload_book.specs.declared.settings.Numbers.{Numbers}
use Rattle.upload_book.specs.laws.Steps.{LastFinishes, charged_after, first_part, later_part}
use Rattle.upload_book.specs.Lawful.{IsTenantOf}
use Rattle.upload_book.specs.TenantBook.{TenantBook}

-- the piece that has its first bytes, behind which the later ones are to come
abbrev pub first_piece : Chunk → List ℕ → List ℕ → Chunk
first_piece chunk first later = record (first_part chunk first) { more = length later + chunk.more }

-- a piece: how many bytes it has, and the moment at which it is added
pub record Piece : Type 0 where
  pub len : ℕ
  pub now : ℕ

-- how many bytes pieces have together
abbrev pub ahead_in : List Piece → ℕ
ahead_in pieces = sum_by (λ (p : Piece). p.len) pieces

-- what a PATCH comes to: its answer, and the tenant's part after it
pub record Patched : Type 0 where
  pub answer : Result Appended Refused
  pub part : TenantBook

-- a PATCH as one
abbrev pub as_one : ℕ → Chunk → ℕ → ℕ → Numbers → TenantBook → Patched
as_one id chunk now charged n part = record { answer = append_answer id chunk now charged n part; part = part_after_append id chunk now charged n part }

-- it goes on after a piece that was accepted; one that is refused ends it, with that answer
abbrev pub goes_on : Result Appended Refused → TenantBook → Patched → Patched
goes_on (Ok appended) middle rest = rest
goes_on (Err why) middle rest = record { answer = Err why; part = middle }

-- A PATCH in pieces, each at its moment, and then the rest of its bytes at a moment, with nothing between.
abbrev pub in_pieces : ℕ → Chunk → List Piece → ℕ → ℕ → Numbers → TenantBook → Patched
in_pieces id chunk [] now charged n part = as_one id chunk now charged n part
in_pieces id chunk (p ∷ pieces) now charged n part =
    let first = take p.len chunk.bytes in
    let later = drop p.len chunk.bytes in
    let piece = first_piece chunk first later in
    let middle = part_after_append id piece p.now charged n part in
    goes_on (append_answer id piece p.now charged n part) middle
    (in_pieces id (later_part chunk first later) pieces now (charged_after n charged part middle) n middle)

-- However a PATCH is cut into pieces: where it would be accepted as one at the moment of the last, each of them is accepted
-- before that, and it comes to the same. What would be refused as one at the moment of the first is refused there, and not a
-- byte of it is stored.
pub record PiecedPatch : Type 0 where
  pub accepted :
      (n : Numbers) (part : TenantBook) (id charged : ℕ) (chunk : Chunk) (pieces : List Piece) (now : ℕ) → IsTenantOf n part
      → All (λ (p : Piece). p.now ≤ now) pieces → LastFinishes n (ahead_in pieces) (length chunk.bytes)
      → IsOk (append_answer id chunk now charged n part)
      → in_pieces id chunk pieces now charged n part ≡ as_one id chunk now charged n part
  pub refused :
      (n : Numbers) (part : TenantBook) (id charged : ℕ) (chunk : Chunk) (p : Piece) (pieces : List Piece) (now : ℕ) (why : Refused) → chunk.check ≡ None
      → append_answer id chunk p.now charged n part ≡ Err why
      → in_pieces id chunk (p ∷ pieces) now charged n part ≡ record { answer = Err why; part = part }
