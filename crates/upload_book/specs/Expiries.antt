-- The uploads of a book that expire (tus 1.0.0, Expiration).
use Rattle.std.specs.Prelude.{ℕ, List, Option, option_and_then}
use Rattle.upload_book.specs.declared.expiry_list.Expiring.{Expiring}
use Rattle.upload_book.specs.ExpiryList.{AreExpiring, Ends}
use Rattle.upload_book.specs.PlainBook.{PlainBook, tenant_book}
use Rattle.upload_book.specs.TenantBook.{TenantBook, kept_in}
use Rattle.upload_book.specs.Upload.{Upload}

-- when the upload under an id expires, if there is one and it does
abbrev pub end_in : TenantBook → ℕ → Option ℕ
end_in part id = option_and_then (λ (u : Upload). u.expires) (kept_in part.uploads id)

-- the same of a name
abbrev pub ends_of : PlainBook → Ends
ends_of b name = end_in (tenant_book b name.tenant) name.id

-- a list has exactly the uploads of a book that expire, those that have expired included
abbrev pub AreExpiries : PlainBook → List Expiring → Type 0
AreExpiries b list = AreExpiring (ends_of b) list
