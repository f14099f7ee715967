-- What every book that steps reach keeps.
use Rattle.std.specs.Prelude.{◌≡◌, ℕ, ◌+◌, ◌<◌, ◌≤◌, Bool, true, List, [], length, flat_map, map, zip, Some, IfSome, IsTrue, All, Contains, codes}
use Rattle.std.specs.List.{sum_by}
use Rattle.std.specs.List.Sorted.{IsStrictlyIncreasing}
use Rattle.tus_text.specs.Concat.{concat_of}
use Rattle.tus_text.specs.Metadata.{is_metadata}
use Rattle.tus_text.specs.declared.concat.Concat.TheVariants as concat
use Rattle.tus_text.specs.declared.concat.PartPath.{PartPath}
use Rattle.upload_book.specs.declared.head_row.Kind.{Kind}
use Rattle.upload_book.specs.declared.head_row.Kind.TheVariants.{Plain, Partial, Final}
use Rattle.upload_book.specs.declared.settings.Numbers.{Numbers}
use Rattle.upload_book.specs.declared.settings.TenantQuota.{TenantQuota}
use Rattle.upload_book.specs.Charge.{charge_in}
use Rattle.upload_book.specs.Expiry.{may_end}
use Rattle.upload_book.specs.Settings.{AreSound}
use Rattle.upload_book.specs.Upload.{Upload, content_of, is_complete, offset_of, IsComplete}
use Rattle.upload_book.specs.TenantBook.{Entry, TenantBook, kept_in}
use Rattle.upload_book.specs.PlainBook.{PlainBook}

-- a text of metadata that is kept: none, or one of the field's form
abbrev pub is_kept_metadata : List ℕ → Bool
is_kept_metadata [] = true
is_kept_metadata text = is_metadata text

-- a concat text that is kept for an upload of a kind: none for one of its own, `partial` for a part, and
-- one that names its parts for a final upload
abbrev pub IsConcatText : Kind → List ℕ → Type 0
IsConcatText Plain text = text ≡ []
IsConcatText Partial text = text ≡ codes "partial"
IsConcatText Final text = (parts : List PartPath) × (concat_of text ≡ Some (concat.Final parts))

-- the id was given
abbrev pub IsGivenIn : TenantBook → ℕ → Type 0
IsGivenIn part id = (0 < id) × (id < part.next)

-- a part of a final upload that still stands is a complete partial upload whose bytes are the segment
abbrev pub IsSegmentOf : TenantBook → ℕ → List ℕ → Type 0
IsSegmentOf part id segment =
    IfSome (kept_in part.uploads id) (λ p. (p.kind ≡ Partial) × IsComplete p × (content_of p ≡ segment))

-- a final upload was made of 1 to 32 parts that were given, and has a segment for each
pub record HasParts (part : TenantBook) (u : Upload) : Type 0 where
  pub some : 0 < length u.parts
  pub few : length u.parts ≤ 32
  pub given : All (IsGivenIn part) u.parts
  pub each : length u.segments ≡ length u.parts
  pub same : All (λ p. IsSegmentOf part p.0 p.1) (zip u.parts u.segments)

-- one segment and no part
pub record IsWhole (u : Upload) : Type 0 where
  pub segment : length u.segments ≡ 1
  pub parts : u.parts ≡ []

-- an upload that is not final is whole, and a final one has its parts and all of its bytes
abbrev pub IsOfKind : TenantBook → Upload → Kind → Type 0
IsOfKind part u Plain = IsWhole u
IsOfKind part u Partial = IsWhole u
IsOfKind part u Final = HasParts part u × IsComplete u

-- an upload is within its length and the greatest size, and as its kind asks; it may have its end; and its texts are of their
-- forms
pub record IsUploadOf (n : Numbers) (part : TenantBook) (u : Upload) : Type 0 where
  pub within : IfSome u.declared (λ declared. (offset_of u ≤ declared) × (declared ≤ n.max_size))
  pub size : offset_of u ≤ n.max_size
  pub kind : IsOfKind part u u.kind
  pub ends : may_end n u.kind (is_complete u) u.expires ≡ true
  pub metadata : IsTrue (is_kept_metadata u.metadata)
  pub concat : IsConcatText u.kind u.concat

-- the segments of final uploads, each with the part whose bytes it has
abbrev pub joined_in : List (Entry Upload) → List (ℕ × List ℕ)
joined_in entries = flat_map (λ (e : Entry Upload). zip e.kept.parts e.kept.segments) entries

-- final uploads of one part have the same bytes of it, also where the part is gone
abbrev pub ShareParts : List (Entry Upload) → Type 0
ShareParts entries =
    (a b : ℕ × List ℕ) → Contains (joined_in entries) a → Contains (joined_in entries) b → a.0 ≡ b.0 → a.1 ≡ b.1

-- A tenant's uploads are few enough, under ids that ascend and were given. A final one is later than each of its parts,
-- and two of one part have the same bytes of it.
pub record IsTenantOf (n : Numbers) (part : TenantBook) : Type 0 where
  pub first : 0 < part.next
  pub last : part.next ≤ n.last_id + 1
  pub few : length part.uploads ≤ n.uploads
  pub ascending : IsStrictlyIncreasing (map (λ e. e.id) part.uploads)
  pub given : All (λ e. IsGivenIn part e.id) part.uploads
  pub uploads : All (λ e. IsUploadOf n part e.kept) part.uploads
  pub later : All (λ e. All (λ p. p < e.id) e.kept.parts) part.uploads
  pub shared : ShareParts part.uploads

-- The settings have no fault, and each tenant of theirs has a part with its quota that is as it should be. No
-- tenant pays more than its quota; what was charged and not released is what they pay, and is within its bound.
pub record IsLawful (b : PlainBook) : Type 0 where
  pub settings : AreSound b.settings
  pub quotas : map {A = TenantBook} {B = ℕ} (λ part. part.quota) b.tenants ≡ map {A = TenantQuota} {B = ℕ} (λ t. t.quota) b.settings.tenants
  pub tenants : All (IsTenantOf b.settings.numbers) b.tenants
  pub charges : All (λ part. charge_in b.settings.numbers part ≤ part.quota) b.tenants
  pub totals : b.charged ≡ b.released + sum_by (charge_in b.settings.numbers) b.tenants
  pub last : b.charged ≤ b.settings.numbers.last_total
