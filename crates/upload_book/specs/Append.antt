-- The step of a PATCH (tus 1.0.0, Core Protocol, Creation, Expiration, Checksum and Concatenation).
use Rattle.std.specs.Prelude.{ℕ, ◌+◌, Bool, true, false, not, ◌||◌, List, [], ◌∷◌, ◌++◌, length, nat_lt, ◌==◌, Option, Some, None, unwrap_or, Result, Ok, Err}
use Rattle.std.specs.Option.{option_map_or}
use Rattle.upload_book.specs.declared.append.Appended.{Appended}
use Rattle.upload_book.specs.Checksum.{is_mismatch, is_of_other_algorithm}
use Rattle.upload_book.specs.Chunk.{Chunk, count_all}
use Rattle.upload_book.specs.declared.append.Refused.{Refused}
use Rattle.upload_book.specs.declared.head_row.HeadRow.{HeadRow}
use Rattle.upload_book.specs.declared.head_row.Kind.{Kind}
use Rattle.upload_book.specs.declared.head_row.Kind.TheVariants.{Plain, Partial, Final}
use Rattle.upload_book.specs.declared.refusal.Refusal.{Refusal}
use Rattle.upload_book.specs.declared.refusal.Refusal.TheVariants.{IsFinal, Media, Offset, LengthFixed, TooLong, Algorithm, Mismatch, Spent, Quota, Memory}
use Rattle.upload_book.specs.declared.settings.Numbers.{Numbers}
use Rattle.upload_book.specs.declared.board_line.Account.{Account}
use Rattle.upload_book.specs.Account.{account_in, account_with, blocks_added}
use Rattle.upload_book.specs.Expiry.{renewed}
use Rattle.upload_book.specs.Refusal.{first_that_holds, unless}
use Rattle.upload_book.specs.TenantBook.{TenantBook, with_changed, visible_upload}
use Rattle.upload_book.specs.Upload.{Upload, content_of, is_reached, head_row_of}

-- the kind is that of a final upload
abbrev pub is_final : Kind → Bool
is_final Plain = false
is_final Partial = false
is_final Final = true

-- the first of the two that is there
abbrev pub or_else : Option ℕ → Option ℕ → Option ℕ
or_else None other = other
or_else (Some n) other = Some n

-- both are there, and they differ
abbrev pub differ : Option ℕ → Option ℕ → Bool
differ known told = option_map_or (λ n. option_map_or (λ k. not (n == k)) told false) known false

-- the length is above the greatest that is allowed, or the bytes go past it
abbrev pub is_too_long : Numbers → ℕ → ℕ → Bool
is_too_long n most end = nat_lt n.max_size most || nat_lt most end

-- The tests of a PATCH of a visible upload with this row that come before its checksum is compared, in their order. They
-- see how many bytes it sends, and no byte.
abbrev pub tests_by_row : Numbers → HeadRow → Chunk → List (Bool × Refusal)
tests_by_row n row chunk =
    (is_final row.kind, IsFinal)
    ∷ (not chunk.typed, Media)
    ∷ (not (chunk.offset == row.offset), Offset)
    ∷ (differ row.declared chunk.length, LengthFixed)
    ∷ (is_too_long n (unwrap_or (or_else row.declared chunk.length) n.max_size) (row.offset + count_all chunk), TooLong)
    ∷ (is_of_other_algorithm chunk.check, Algorithm)
    ∷ []

-- why a PATCH is refused by them, if it is
abbrev pub refusal_by_row : Numbers → HeadRow → Chunk → Option Refusal
refusal_by_row n row chunk = first_that_holds (tests_by_row n row chunk)

-- the tests that come after them, on this account
abbrev pub tests_by_bytes : Numbers → Account → HeadRow → Chunk → List (Bool × Refusal)
tests_by_bytes n account row chunk =
    let after = account_with account (blocks_added n row.offset (count_all chunk)) in
    (is_mismatch chunk.check chunk.bytes, Mismatch)
    ∷ (nat_lt n.last_total after.charged, Spent)
    ∷ (nat_lt after.quota after.charge, Quota)
    ∷ []

-- all tests of a PATCH of a visible upload with this row, on this account, in their order
abbrev pub append_tests : Numbers → Account → HeadRow → Chunk → List (Bool × Refusal)
append_tests n account row chunk = tests_by_row n row chunk ++ tests_by_bytes n account row chunk

-- why a PATCH of a visible upload is refused, if it is
abbrev pub append_refusal : Numbers → Account → HeadRow → Chunk → Option Refusal
append_refusal n account row chunk = first_that_holds (append_tests n account row chunk)

-- the row of an upload with the bytes at its end; a length that was not known becomes the one told
abbrev pub row_with : Numbers → HeadRow → Chunk → ℕ → HeadRow
row_with n row chunk now =
    let declared = or_else row.declared chunk.length in
    let offset = row.offset + length chunk.bytes in
    record row {
      offset = offset;
      declared = declared;
      expires = renewed n row.kind (is_reached row.declared row.offset) (is_reached declared offset) row.expires now;
    }

-- the row of an upload and the account of its tenant after a PATCH, or why it is refused
abbrev pub appended_row : Numbers → Account → HeadRow → Chunk → ℕ → Result (HeadRow × Account) Refusal
appended_row n account row chunk now =
    unless (append_refusal n account row chunk)
    (row_with n row chunk now, account_with account (blocks_added n row.offset (length chunk.bytes)))

-- the upload with the bytes at its end, and for the rest as its row says
abbrev pub upload_with : Numbers → Upload → Chunk → ℕ → Upload
upload_with n u chunk now =
    let row = row_with n (head_row_of u) chunk now in
    record u {
      declared = row.declared;
      segments = (content_of u ++ chunk.bytes) ∷ [];
      expires = row.expires;
    }

-- the upload after a PATCH of it, or why it is refused
abbrev pub appended_upload : Numbers → Account → Upload → Chunk → ℕ → Result Upload Refusal
appended_upload n account u chunk now =
    unless (append_refusal n account (head_row_of u) chunk) (upload_with n u chunk now)

-- a refusal tells when the upload expires
abbrev pub telling : Option ℕ → Result Upload Refusal → Result Upload Refused
telling expires (Ok u) = Ok u
telling expires (Err refusal) = Err (record { refusal = refusal; expires = expires })

-- the upload of an id after a PATCH, or why it is refused, where so many blocks were charged so far
abbrev pub appended : ℕ → Chunk → ℕ → ℕ → Numbers → TenantBook → Result Upload Refused
appended id chunk now charged n part = appended_where (visible_upload part id now) where
  appended_where : Result Upload Refusal → Result Upload Refused
  appended_where (Ok u) = telling u.expires (appended_upload n (account_in n part charged) u chunk now)
  appended_where (Err refusal) = Err (record { refusal = refusal; expires = None })

-- what is told of it
abbrev pub told : Result Upload Refused → Result Appended Refused
told (Ok u) = Ok (record { offset = (head_row_of u).offset; expires = u.expires })
told (Err refused) = Err refused

-- the answer to a PATCH
abbrev pub append_answer : ℕ → Chunk → ℕ → ℕ → Numbers → TenantBook → Result Appended Refused
append_answer id chunk now charged n part = told (appended id chunk now charged n part)

-- the part with this upload under the id, if there is one
abbrev pub with_appended : TenantBook → ℕ → Result Upload Refused → TenantBook
with_appended part id (Ok u) = with_changed part id u
with_appended part id (Err refused) = part

-- the part after a PATCH; one that is refused leaves it as it was
abbrev pub part_after_append : ℕ → Chunk → ℕ → ℕ → Numbers → TenantBook → TenantBook
part_after_append id chunk now charged n part = with_appended part id (appended id chunk now charged n part)

-- when an upload that was looked for expires, if it is visible and does
abbrev pub expiry_seen : Result Upload Refusal → Option ℕ
expiry_seen (Ok u) = u.expires
expiry_seen (Err refusal) = None

-- the same of the upload of an id
abbrev pub expiry_told : ℕ → ℕ → TenantBook → Option ℕ
expiry_told id now part = expiry_seen (visible_upload part id now)

-- the answer to a PATCH whose bytes find no memory
abbrev pub append_lacking : ℕ → ℕ → Numbers → TenantBook → Result Appended Refused
append_lacking id now n part = Err (record { refusal = Memory; expires = expiry_told id now part })
