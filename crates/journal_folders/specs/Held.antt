-- How much a book holds: how many uploads, and how many bytes these have together.
use Rattle.std.specs.Prelude.{◌≡◌, ℕ, ◌^◌, ◌-◌, min, length, Result, Ok, Err}
use Rattle.std.specs.List.{sum_by}
use Rattle.upload_book.specs.Charge.{sum_below}
use Rattle.upload_book.specs.Look.{look_answer}
use Rattle.upload_book.specs.PlainBook.{PlainBook}
use Rattle.upload_book.specs.TenantBook.{TenantBook}
use Rattle.upload_book.specs.declared.head_row.HeadRow.{HeadRow}
use Rattle.upload_book.specs.declared.refusal.Refusal.{Refusal}
use Rattle.upload_book.specs.declared.settings.Numbers.{Numbers}
use Rattle.journal_folders.specs.declared.held.Held.{Held}

-- a number, or the greatest of 64 bits where it is more
abbrev pub capped : ℕ → ℕ
capped n = min n (2 ^ 64 - 1)

-- the bytes of which a look tells
abbrev pub bytes_told : Result HeadRow Refusal → ℕ
bytes_told (Ok row) = row.offset
bytes_told (Err refusal) = 0

-- The bytes that a tenant's upload of an id has; none where it has ended, or the id was not given. It is looked at before any
-- moment at which one expires.
abbrev pub bytes_under : Numbers → TenantBook → ℕ → ℕ
bytes_under n part id = bytes_told (look_answer id 0 n part)

-- the bytes of all ids that were given
abbrev pub bytes_in : Numbers → TenantBook → ℕ
bytes_in n part = sum_below part.next (bytes_under n part)

-- what a tenant's part holds
pub record IsHeldFor (n : Numbers) (part : TenantBook) (held : Held) : Type 0 where
  pub uploads : held.uploads ≡ length part.uploads
  pub bytes : held.bytes ≡ capped (bytes_in n part)

-- what the parts of all tenants hold together
pub record IsHeldIn (b : PlainBook) (held : Held) : Type 0 where
  pub uploads : held.uploads ≡ capped (sum_by (λ (part : TenantBook). length part.uploads) b.tenants)
  pub bytes : held.bytes ≡ capped (sum_by (bytes_in b.settings.numbers) b.tenants)
