-- A creation whose bytes come in pieces. The first piece creates the upload. What is behind it comes as a PATCH of the upload,
-- which may come in pieces itself.
use Rattle.std.specs.Prelude.{◌≡◌, ◌<◌, ◌≤◌, ◌+◌, ℕ, true, length, take, drop, IsOk, None, Err, Ok}
use Rattle.upload_book.specs.Append.{append_answer, part_after_append}
use Rattle.upload_book.specs.Chunk.{Chunk}
use Rattle.upload_book.specs.Create.{create_answer, created_upload, part_after_create}
use Rattle.upload_book.specs.declared.refusal.Refusal.{Refusal}
use Rattle.upload_book.specs.declared.settings.Numbers.{Numbers}
use Rattle.upload_book.specs.Expiry.{lifetime_end}
use Rattle.upload_book.specs.FirstChunk.{FirstChunk}
use Rattle.upload_book.specs.laws.Steps.{LastFinishes, charged_after}
use Rattle.upload_book.specs.Lawful.{IsLawful, IsTenantOf}
use Rattle.upload_book.specs.NewUpload.{NewUpload}
use Rattle.upload_book.specs.PlainBook.{PlainBook, answer_of, book_after, tenant_book}
use Rattle.upload_book.specs.TenantBook.{TenantBook}

-- the piece that has its first bytes, so many; it has no checksum, since that was of all of them
abbrev pub begun_with : FirstChunk → ℕ → FirstChunk
begun_with first k = record first { check = None; bytes = take k first.bytes; more = length (drop k first.bytes) + first.more }

-- the PATCH of the bytes behind them, which tells the length that the creation told
abbrev pub ended_by : NewUpload → FirstChunk → ℕ → Chunk
ended_by new first k = record {
  offset = length (take k first.bytes);
  length = new.length;
  typed = true;
  check = None;
  bytes = drop k first.bytes;
  more = first.more;
}

-- A creation may come in two: its first bytes, and a PATCH of the rest while the upload stands.
pub record PiecedCreation : Type 0 where
  -- Where it would be accepted as one, with a checksum or without, both are accepted without one. The PATCH tells what the
  -- creation tells, and the tenant's part is the same after it.
  pub accepted :
      (n : Numbers) (part : TenantBook) (tenant charged : ℕ) (new : NewUpload) (first : FirstChunk) (k early now : ℕ)
      → IsTenantOf n part → early ≤ now → now < lifetime_end n early → LastFinishes n k (length first.bytes)
      → IsOk (create_answer tenant new first now charged n part)
      → let middle = part_after_create new (begun_with first k) early charged n part in
      let more = charged_after n charged part middle in
      IsOk (create_answer tenant new (begun_with first k) early charged n part)
      × (append_answer part.next (ended_by new first k) now more n middle
      ≡ Ok (record { offset = length first.bytes; expires = (created_upload n new first.bytes now).expires }))
      × (part_after_append part.next (ended_by new first k) now more n middle ≡ part_after_create new first now charged n part)
  -- What would be refused as one is refused by its first bytes, and nothing is created.
  pub refused :
      (n : Numbers) (part : TenantBook) (tenant charged : ℕ) (new : NewUpload) (first : FirstChunk) (k now : ℕ) (why : Refusal) → first.check ≡ None
      → create_answer tenant new first now charged n part ≡ Err why
      → (create_answer tenant new (begun_with first k) now charged n part ≡ Err why)
      × (part_after_create new (begun_with first k) now charged n part ≡ part)

-- A creation of a lawful book may come so: where it would be accepted as one, both are accepted, the PATCH of the upload that the
-- first piece created tells what the creation tells, and the book is the same after it.
abbrev pub PiecedCreationOfBook : Type 0
PiecedCreationOfBook =
    (b : PlainBook) (tenant : ℕ) (new : NewUpload) (first : FirstChunk) (k early now : ℕ) → IsLawful b → tenant < length b.tenants
    → early ≤ now → now < lifetime_end b.settings.numbers early → LastFinishes b.settings.numbers k (length first.bytes)
    → IsOk (answer_of b tenant (create_answer tenant new first now b.charged))
    → let middle = book_after b tenant (part_after_create new (begun_with first k) early b.charged) in
    let id = (tenant_book b tenant).next in
    IsOk (answer_of b tenant (create_answer tenant new (begun_with first k) early b.charged))
    × (answer_of middle tenant (append_answer id (ended_by new first k) now middle.charged)
    ≡ Ok (record { offset = length first.bytes; expires = (created_upload b.settings.numbers new first.bytes now).expires }))
    × (book_after middle tenant (part_after_append id (ended_by new first k) now middle.charged)
    ≡ book_after b tenant (part_after_create new first now b.charged))
