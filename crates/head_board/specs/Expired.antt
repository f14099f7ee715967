-- Where no upload has expired.
use Rattle.std.specs.Prelude.{◌≡◌, ℕ, false, All}
use Rattle.upload_book.specs.declared.head_row.HeadRow.{HeadRow}
use Rattle.upload_book.specs.Expiry.{has_expired}
use Rattle.upload_book.specs.Heads.{HeadPart, Heads}
use Rattle.upload_book.specs.TenantBook.{Entry}

-- none of the uploads that heads show has expired at a moment
abbrev pub NoneHasExpired : ℕ → Heads → Type 0
NoneHasExpired now h =
    All (λ (part : HeadPart). All (λ (e : Entry HeadRow). has_expired now e.kept.expires ≡ false) part.uploads) h.tenants
