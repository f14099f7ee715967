-- The step of a creation (tus 1.0.0, Creation, Creation With Upload, Expiration, Checksum and Concatenation).
use Rattle.std.specs.Prelude.{ℕ, ◌<◌, ◌⊎◌, Bool, false, not, ◌||◌, List, [], ◌∷◌, length, nat_lt, nat_le, Option, Some, None, unwrap_or, Result, if◌then◌else◌}
use Rattle.upload_book.specs.Account.{account_in, account_with, blocks_added}
use Rattle.upload_book.specs.Append.{is_too_long}
use Rattle.upload_book.specs.Checksum.{is_mismatch, is_of_other_algorithm}
use Rattle.upload_book.specs.declared.board_line.Account.{Account}
use Rattle.upload_book.specs.declared.create.Created.{Created}
use Rattle.upload_book.specs.FirstChunk.{FirstChunk, count_all_first, no_chunk}
use Rattle.upload_book.specs.NewUpload.{NewUpload}
use Rattle.upload_book.specs.declared.head_row.Kind.{Kind}
use Rattle.upload_book.specs.declared.head_row.Kind.TheVariants.{Plain, Partial}
use Rattle.upload_book.specs.declared.refusal.Refusal.{Refusal}
use Rattle.upload_book.specs.declared.refusal.Refusal.TheVariants.{Media, TooLong, Algorithm, Mismatch, Uploads, Spent, Quota}
use Rattle.upload_book.specs.declared.settings.Numbers.{Numbers}
use Rattle.upload_book.specs.Expiry.{renewed}
use Rattle.upload_book.specs.Refusal.{first_that_holds, unless}
use Rattle.upload_book.specs.TenantBook.{TenantBook, with_new}
use Rattle.upload_book.specs.Upload.{Upload, is_reached}

-- The tests of a creation with these first bytes, for a tenant with this account and part, in their order. They see how many
-- bytes it has in all.
abbrev pub creation_tests : Numbers → Account → TenantBook → NewUpload → FirstChunk → List (Bool × Refusal)
creation_tests n account part new first =
    let after = account_with account (blocks_added n 0 (count_all_first first)) in
    (not first.typed, Media)
    ∷ (is_too_long n (unwrap_or new.length n.max_size) (count_all_first first), TooLong)
    ∷ (is_of_other_algorithm first.check, Algorithm)
    ∷ (is_mismatch first.check first.bytes, Mismatch)
    ∷ (nat_le n.uploads (length part.uploads), Uploads)
    ∷ (nat_lt n.last_id part.next || nat_lt n.last_total after.charged, Spent)
    ∷ (nat_lt after.quota after.charge, Quota)
    ∷ []

-- why a creation is refused, if it is
abbrev pub creation_refusal : Numbers → Account → TenantBook → NewUpload → FirstChunk → Option Refusal
creation_refusal n account part new first = first_that_holds (creation_tests n account part new first)

-- a part of a later final upload, or an upload of its own
abbrev pub new_kind : Bool → Kind
new_kind partial = if partial then Partial else Plain

-- a new upload with these bytes, which expires then, if it does
abbrev pub upload_from : NewUpload → List ℕ → Option ℕ → Upload
upload_from new bytes expires = record {
  kind = new_kind new.partial;
  parts = [];
  declared = new.length;
  segments = bytes ∷ [];
  metadata = new.metadata;
  concat = new.concat;
  expires = expires;
}

-- when a new upload with so many bytes expires: as one that is touched now, and neither expired before nor was complete
abbrev pub first_end : Numbers → NewUpload → ℕ → ℕ → Option ℕ
first_end n new len now = renewed n (new_kind new.partial) false (is_reached new.length len) None now

-- the upload that is created now with these bytes
abbrev pub created_upload : Numbers → NewUpload → List ℕ → ℕ → Upload
created_upload n new bytes now = upload_from new bytes (first_end n new (length bytes) now)

-- the answer to a creation for the tenant at a place, whose part this is, where so many blocks were charged so far
abbrev pub create_answer : ℕ → NewUpload → FirstChunk → ℕ → ℕ → Numbers → TenantBook → Result Created Refusal
create_answer tenant new first now charged n part =
    unless (creation_refusal n (account_in n part charged) part new first) (record {
      name = record { tenant = tenant; id = part.next };
      expires = (created_upload n new first.bytes now).expires;
    })

-- the part after it; one that is refused leaves it as it was
abbrev pub part_after_create : NewUpload → FirstChunk → ℕ → ℕ → Numbers → TenantBook → TenantBook
part_after_create new first now charged n part = part_unless (creation_refusal n (account_in n part charged) part new first) where
  part_unless : Option Refusal → TenantBook
  part_unless None = with_new part (created_upload n new first.bytes now)
  part_unless (Some refusal) = part

-- A creation without bytes takes no block, so what was charged so far says nothing of it. This is its answer,
abbrev pub create_empty_answer : ℕ → NewUpload → ℕ → Numbers → TenantBook → Result Created Refusal
create_empty_answer tenant new now n part = create_answer tenant new no_chunk now 0 n part

-- and the part after it
abbrev pub part_after_create_empty : NewUpload → ℕ → Numbers → TenantBook → TenantBook
part_after_create_empty new now n part = part_after_create new no_chunk now 0 n part

-- Memory is taken for the texts of a new upload where the settings allow a tenant more than 64 uploads. For 64 or fewer it
-- is there from the start.
abbrev pub TakesTexts : Numbers → Type 0
TakesTexts n = 64 < n.uploads

-- A creation takes memory for its texts, or for its bytes: these, with those that are to come behind them, take a block.
abbrev pub TakesMemory : Numbers → FirstChunk → Type 0
TakesMemory n first = (0 < blocks_added n 0 (count_all_first first)) ⊎ TakesTexts n
