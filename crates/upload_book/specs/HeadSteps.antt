-- Which lines may follow on heads: those of the steps of a lawful book.
use Rattle.std.specs.Prelude.{◌≡◌, ℕ, ◌+◌, ◌≤◌, length, ◌⊎◌, Some, All, IfSome, ⊤}
use Rattle.upload_book.specs.declared.board_line.BoardLine.{BoardLine}
use Rattle.upload_book.specs.declared.board_line.HeadChange.{HeadChange}
use Rattle.upload_book.specs.declared.board_line.HeadChange.TheVariants.{Put, Gone, Swept, Next, Totals}
use Rattle.upload_book.specs.declared.head_row.HeadRow.{HeadRow}
use Rattle.upload_book.specs.declared.settings.Numbers.{Numbers}
use Rattle.upload_book.specs.Heads.{Heads, HeadPart, apply_line, head_part_at}
use Rattle.upload_book.specs.TenantBook.{kept_in}

-- An upload of one row may get another: kind and texts stay, it does not become shorter, and a known length stays.
pub record MayBecome (old new : HeadRow) : Type 0 where
  pub kind : new.kind ≡ old.kind
  pub metadata : new.metadata ≡ old.metadata
  pub concat : new.concat ≡ old.concat
  pub offset : old.offset ≤ new.offset
  pub declared : IfSome old.declared (λ n. new.declared ≡ Some n)

-- the row is that of an upload which stands under an id, and may get this one
pub record Follows (part : HeadPart) (id : ℕ) (new : HeadRow) : Type 0 where
  pub old : HeadRow
  pub stands : kept_in part.uploads id ≡ Some old
  pub becomes : MayBecome old new

-- The change may be made: a row is put under the next id of a tenant or follows on one that stands, what ends stands, and
-- no id is given again.
abbrev pub MayChange : Heads → HeadChange → Type 0
MayChange h (Put name row) =
    (name.id ≡ (head_part_at h name.tenant).next) ⊎ Follows (head_part_at h name.tenant) name.id row
MayChange h (Gone name) = (row : HeadRow) × (kept_in (head_part_at h name.tenant).uploads name.id ≡ Some row)
MayChange h (Swept now) = ⊤
MayChange h (Next name) = (head_part_at h name.tenant).next ≤ name.id
MayChange h Totals = ⊤

-- a tenant has no more uploads than the settings allow, and its ids go no further
pub record IsWithin (n : Numbers) (part : HeadPart) : Type 0 where
  pub few : length part.uploads ≤ n.uploads
  pub last : part.next ≤ n.last_id + 1

-- The line may follow on the heads: its change may be made, each tenant is within its numbers after it, and no total
-- falls.
pub record MayFollow (h : Heads) (line : BoardLine) : Type 0 where
  pub change : MayChange h line.change
  pub within : All (IsWithin h.settings.numbers) (apply_line h line).tenants
  pub charged : h.accounts.charged ≤ line.accounts.charged
  pub released : h.accounts.released ≤ line.accounts.released
