-- An upload as it is put back: one of its own as a new one with its bytes and its end, and the row of each.
use Rattle.std.specs.Prelude.{ℕ, Bool, not, ◌||◌, List, [], ◌∷◌, length, nat_lt, nat_le, ◌==◌, unwrap_or}
use Rattle.upload_book.specs.Account.{account_with, blocks_added}
use Rattle.upload_book.specs.Append.{is_too_long}
use Rattle.upload_book.specs.Concat.{is_partial}
use Rattle.upload_book.specs.declared.board_line.Account.{Account}
use Rattle.upload_book.specs.declared.head_row.HeadRow.{HeadRow}
use Rattle.upload_book.specs.declared.refusal.Refusal.{Refusal}
use Rattle.upload_book.specs.declared.refusal.Refusal.TheVariants.{Field, TooLong, Uploads, Spent, Quota}
use Rattle.upload_book.specs.declared.settings.Numbers.{Numbers}
use Rattle.upload_book.specs.NewUpload.{NewUpload}
use Rattle.upload_book.specs.snapshot.Restore.{ends_rightly}
use Rattle.upload_book.specs.snapshot.Restored.{RestoredUpload}
use Rattle.upload_book.specs.TenantBook.{TenantBook}
use Rattle.upload_book.specs.Upload.{is_reached}

-- the new upload that it is
abbrev pub new_of : RestoredUpload → NewUpload
new_of r = record {
  partial = is_partial r.kind;
  length = r.declared;
  metadata = r.metadata;
  concat = r.concat;
}

-- what a HEAD tells of an upload that is put back, final or not, where it has so many bytes
abbrev pub row_back : RestoredUpload → ℕ → HeadRow
row_back r len = record {
  kind = r.kind;
  offset = len;
  declared = r.declared;
  metadata = r.metadata;
  concat = r.concat;
  expires = r.expires;
}

-- the tests of one of its own where it has so many bytes, for a tenant with this account and part
abbrev pub own_tests : Numbers → Account → TenantBook → RestoredUpload → ℕ → List (Bool × Refusal)
own_tests n account part r len =
    let after = account_with account (blocks_added n 0 len) in
    (not (r.id == part.next) || not (ends_rightly n r.kind (is_reached r.declared len) r.expires), Field)
    ∷ (is_too_long n (unwrap_or r.declared n.max_size) len, TooLong)
    ∷ (nat_le n.uploads (length part.uploads), Uploads)
    ∷ (nat_lt n.last_id r.id || nat_lt n.last_total after.charged, Spent)
    ∷ (nat_lt after.quota after.charge, Quota)
    ∷ []
