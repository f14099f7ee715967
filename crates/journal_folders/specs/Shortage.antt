-- What of a book is more than other settings allow.
use Rattle.std.specs.Prelude.{◌≡◌, ℕ, ◌<◌, ◌≤◌, List, length, map, Some, Ok, option_map, slice_get, unwrap_or}
use Rattle.upload_book.specs.Charge.{charge_in}
use Rattle.upload_book.specs.Look.{look_answer}
use Rattle.upload_book.specs.PlainBook.{PlainBook, answer_of, tenant_book}
use Rattle.upload_book.specs.Settings.{Settings}
use Rattle.upload_book.specs.declared.head_row.HeadRow.{HeadRow}
use Rattle.upload_book.specs.declared.settings.TenantQuota.{TenantQuota}
use Rattle.server_words.specs.MayFollow.{names_of}
use Rattle.server_words.specs.Sentences.{shown}
use Rattle.server_words.specs.declared.shortage.Shortage.{Shortage}
use Rattle.server_words.specs.declared.shortage.Shortage.TheVariants.{Quota, MaxSize, Uploads}

-- the tenant of the book at this place is shown so
abbrev pub IsShownAt : PlainBook → ℕ → List ℕ → Type 0
IsShownAt b tenant text = option_map shown (slice_get (names_of b.settings) tenant) ≡ Some text

-- the tenant has more uploads than it may
pub record HasTooMany (b : PlainBook) (new : Settings) (tenant : ℕ) (uploads most : ℕ) : Type 0 where
  pub uploads_are : uploads ≡ length (tenant_book b tenant).uploads
  pub most_is : most ≡ new.numbers.uploads
  pub more : most < uploads

-- The tenant's upload of this id is too long: it is to have so many bytes, or has them where that is not known. It is looked at
-- before any moment at which one expires.
pub record IsTooLong (b : PlainBook) (new : Settings) (tenant id len max : ℕ) : Type 0 where
  pub row : HeadRow
  pub looked : answer_of b tenant (look_answer id 0) ≡ Ok row
  pub len_is : len ≡ unwrap_or row.declared row.offset
  pub max_is : max ≡ new.numbers.max_size
  pub more : max < len

-- The tenant pays more than its quota. What it pays is what the book tells, where blocks have the same size.
pub record PaysTooMuch (b : PlainBook) (new : Settings) (tenant pays quota : ℕ) : Type 0 where
  pub pays_are : new.numbers.block_size ≡ b.settings.numbers.block_size → pays ≡ charge_in b.settings.numbers (tenant_book b tenant)
  pub quota_is : slice_get (map {A = TenantQuota} {B = ℕ} (λ t. t.quota) new.tenants) tenant ≡ Some quota
  pub more : quota < pays

-- what stands in a book and is more than these settings allow, of the tenant at a place
abbrev pub IsShortAt : PlainBook → Settings → ℕ → Shortage → Type 0
IsShortAt b new tenant (Quota name pays quota) = IsShownAt b tenant name.bytes × PaysTooMuch b new tenant pays quota
IsShortAt b new tenant (MaxSize name id len max) = IsShownAt b tenant name.bytes × IsTooLong b new tenant id len max
IsShortAt b new tenant (Uploads name uploads most) = IsShownAt b tenant name.bytes × HasTooMany b new tenant uploads most

abbrev pub IsShort : PlainBook → Settings → Shortage → Type 0
IsShort b new shortage = (tenant : ℕ) × IsShortAt b new tenant shortage

-- The tenant has no more uploads than these settings allow, and where blocks keep their size it pays no more than its quota.
pub record IsWithin (b : PlainBook) (new : Settings) (tenant : ℕ) : Type 0 where
  pub uploads : length (tenant_book b tenant).uploads ≤ new.numbers.uploads
  pub pays : new.numbers.block_size ≡ b.settings.numbers.block_size
      → (quota : ℕ) → slice_get (map {A = TenantQuota} {B = ℕ} (λ t. t.quota) new.tenants) tenant ≡ Some quota
      → charge_in b.settings.numbers (tenant_book b tenant) ≤ quota

-- so do all tenants that both have
abbrev pub AreWithin : PlainBook → Settings → Type 0
AreWithin b new = (tenant : ℕ) → tenant < length b.settings.tenants → tenant < length new.tenants → IsWithin b new tenant
