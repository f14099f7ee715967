-- The heads of a book: what HEADs tell of it, with no bytes. A copy of them can be kept beside a book, since each step
-- changes them by one line.
use Rattle.std.specs.Prelude.{ℕ, List, ◌==◌, not, get_or, map, set, Result, if◌then◌else◌}
use Rattle.std.specs.List.{filter, range_with_len}
use Rattle.upload_book.specs.declared.board_line.Accounts.{Accounts}
use Rattle.upload_book.specs.declared.board_line.BoardLine.{BoardLine}
use Rattle.upload_book.specs.declared.board_line.HeadChange.{HeadChange}
use Rattle.upload_book.specs.declared.board_line.HeadChange.TheVariants.{Put, Gone, Swept, Next, Totals}
use Rattle.upload_book.specs.declared.head_row.HeadRow.{HeadRow}
use Rattle.upload_book.specs.declared.head_row.Name.{Name}
use Rattle.upload_book.specs.declared.refusal.Refusal.{Refusal}
use Rattle.upload_book.specs.Charge.{charge_in}
use Rattle.upload_book.specs.Expiry.{has_expired}
use Rattle.upload_book.specs.PlainBook.{PlainBook, tenant_book}
use Rattle.upload_book.specs.Settings.{Settings}
use Rattle.upload_book.specs.TenantBook.{TenantBook, TenantPart, Entry, opening_part, visible_in, with_changed, with_new, with_next}
use Rattle.upload_book.specs.Terminate.{without}
use Rattle.upload_book.specs.Upload.{Upload, head_row_of}

-- a tenant's part that keeps the row of each upload
abbrev pub HeadPart : Type 0
HeadPart = TenantPart HeadRow

-- the settings, the tenants' parts in the order of the settings, and what is charged
pub record Heads : Type 0 where
  pub settings : Settings
  pub tenants : List HeadPart
  pub accounts : Accounts

-- a tenant's part of the book with rows in place of uploads
abbrev pub head_part : TenantBook → HeadPart
head_part part = record {
  quota = part.quota;
  next = part.next;
  uploads = map {A = Entry Upload} {B = Entry HeadRow} (λ e. record { id = e.id; kept = head_row_of e.kept }) part.uploads;
}

-- what is charged in a book; there is room for 16 tenants, and where none is, nothing is paid
abbrev pub accounts_of : PlainBook → Accounts
accounts_of b = record {
  charged = b.charged;
  released = b.released;
  charge = map (λ tenant. charge_in b.settings.numbers (tenant_book b tenant)) (range_with_len 0 16);
}

-- the heads of a book
abbrev pub heads_of : PlainBook → Heads
heads_of b = record {
  settings = b.settings;
  tenants = map {A = TenantBook} {B = HeadPart} head_part b.tenants;
  accounts = accounts_of b;
}

-- a tenant's part, by its place in the settings; that of no tenant has no upload and gave no id
abbrev pub head_part_at : Heads → ℕ → HeadPart
head_part_at h tenant = get_or h.tenants tenant (opening_part 0)

-- what is told of a name at a moment
abbrev pub shown : Heads → Name → ℕ → Result HeadRow Refusal
shown h name now = visible_in (λ row. row.expires) (head_part_at h name.tenant) name.id now

-- a part with a row under an id: that of a new upload, where the id is the next one
abbrev pub with_row : HeadPart → ℕ → HeadRow → HeadPart
with_row part id row = if id == part.next then with_new part row else with_changed part id row

-- a part without the rows that have expired at a moment
abbrev pub without_expired : ℕ → HeadPart → HeadPart
without_expired now part = record part { uploads = filter (λ e. not (has_expired now e.kept.expires)) part.uploads }

-- the tenants' parts after a change
abbrev pub parts_after : Heads → HeadChange → List HeadPart
parts_after h (Put name row) = set h.tenants name.tenant (with_row (head_part_at h name.tenant) name.id row)
parts_after h (Gone name) = set h.tenants name.tenant (without (head_part_at h name.tenant) name.id)
parts_after h (Swept now) = map {A = HeadPart} {B = HeadPart} (without_expired now) h.tenants
parts_after h (Next name) = set h.tenants name.tenant (with_next (head_part_at h name.tenant) name.id)
parts_after h Totals = h.tenants

-- the heads after a line
abbrev pub apply_line : Heads → BoardLine → Heads
apply_line h line = record h { tenants = parts_after h line.change; accounts = line.accounts }
