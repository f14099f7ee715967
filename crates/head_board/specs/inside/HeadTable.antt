-- How a table keeps the heads of a book.
use Rattle.std.specs.Prelude.{◌≡◌, ℕ, Bool, false, List, map, All, Option, ⊤}
use Rattle.std.specs.Option.{option_map_or}
use Rattle.head_board.specs.declared.head_table.HeadTable.TheInside.{Inside}
use Rattle.head_board.specs.inside.RowPlace.{IsRowFor}
use Rattle.head_board.specs.inside.Rows.{AreBounded, Rows}
use Rattle.upload_book.specs.declared.settings.TenantQuota.{TenantQuota}
use Rattle.upload_book.specs.declared.head_note.NotedChange.{NotedChange}
use Rattle.upload_book.specs.declared.head_note.NotedChange.TheVariants.{Created, Shared}
use Rattle.upload_book.specs.declared.head_row.HeadRow.{HeadRow}
use Rattle.upload_book.specs.HeadNotes.{change_told}
use Rattle.upload_book.specs.Heads.{Heads, HeadPart, parts_after}
use Rattle.head_board.specs.Room.{has_room}
use Rattle.upload_book.specs.TenantBook.{opening_part}

-- the tenants' parts at the start
abbrev pub opening_parts : List TenantQuota → List HeadPart
opening_parts tenants = map {A = TenantQuota} {B = HeadPart} (λ t. opening_part t.quota) tenants

-- the heads that are kept so
abbrev pub heads_in : Inside → Heads
heads_in t = record {
  settings = t.settings;
  tenants = map {A = Rows} {B = HeadPart} (λ r. r.part) t.parts.items;
  accounts = t.accounts;
}

-- Each tenant has room for as many rows as the settings allow, and none of all rows ends before the bound that is kept: so
-- a sweep at a moment before it has nothing to do.
pub record IsHeadTable (t : Inside) : Type 0 where
  pub room : All (λ (r : Rows). r.room ≡ t.settings.numbers.uploads) t.parts.items
  pub bound : All (λ (r : Rows). AreBounded t.first_end r.part.uploads) t.parts.items

-- something changes by what is noted, and there is room for it
abbrev pub is_taken : Heads → NotedChange → Bool
is_taken h change = option_map_or (has_room h) (change_told h change) false

-- the tenants' parts after it
abbrev pub parts_noted : Heads → NotedChange → List HeadPart
parts_noted h change = option_map_or (parts_after h) (change_told h change) h.tenants

-- the row of a new upload was made ahead, where there is no box for it
abbrev pub IsRowAhead : ℕ → NotedChange → Option HeadRow → Type 0
IsRowAhead uploads (Created tenant row) shared = IsRowFor uploads shared row
IsRowAhead uploads (Shared tenant row) shared = IsRowFor uploads shared row
IsRowAhead uploads change shared = ⊤
