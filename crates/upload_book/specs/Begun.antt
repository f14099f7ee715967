-- Bytes of a complete upload that are copied piece by piece, with changes between (RFC 9110, section 9.3.1).
use Rattle.std.specs.Prelude.{◌≡◌, ◌<◌, ◌+◌, ◌⊎◌, ℕ, List, [], ◌++◌, Contains, drop, length, take, Result, Ok, Err}
use Rattle.upload_book.specs.declared.head_row.Name.{Name}
use Rattle.upload_book.specs.declared.refusal.Refusal.{Refusal}
use Rattle.upload_book.specs.PlainBook.{PlainBook, tenant_book}
use Rattle.upload_book.specs.TenantBook.{TenantBook}
use Rattle.upload_book.specs.Upload.{Upload, IsComplete, content_of}

-- the id was given, and what stands under it, if anything does, is complete and has these bytes
pub record HasOnly (part : TenantBook) (id : ℕ) (content : List ℕ) : Type 0 where
  pub given : id < part.next
  pub has : (u : Upload) → Contains part.uploads (record { id = id; kept = u }) → IsComplete u × (content_of u ≡ content)

-- the same of a name in a book
abbrev pub BookHasOnly : PlainBook → Name → List ℕ → Type 0
BookHasOnly b name content = HasOnly (tenant_book b name.tenant) name.id content

-- no bytes, or the first ones behind a place of what stands under the name, if anything does
abbrev pub IsBegun : PlainBook → Name → ℕ → List ℕ → Type 0
IsBegun b name first bytes =
    (bytes ≡ []) ⊎ ((content : List ℕ) × BookHasOnly b name content × (bytes ≡ take (length bytes) (drop first content)))

-- behind the first bytes from a place on of what a GET gives, at most so many of the next
abbrev pub with_more : Result (List ℕ) Refusal → ℕ → ℕ → List ℕ → List ℕ
with_more (Ok content) first many bytes = bytes ++ take many (drop (first + length bytes) content)
with_more (Err refusal) first many bytes = bytes
