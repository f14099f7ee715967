-- How a table keeps the rows of a tenant.
use Rattle.std.specs.Prelude.{◌≡◌, ◌≤◌, ℕ, ◌==◌, Bool, true, false, List, map, All, Option, Some, None, min, ⊤}
use Rattle.head_board.specs.declared.head_rows.HeadRows.TheInside.{Inside}
use Rattle.upload_book.specs.declared.head_note.Growth.{Growth}
use Rattle.upload_book.specs.declared.head_row.HeadRow.{HeadRow}
use Rattle.upload_book.specs.Expiry.{has_expired}
use Rattle.upload_book.specs.HeadNotes.{row_grown}
use Rattle.upload_book.specs.Heads.{HeadPart}
use Rattle.upload_book.specs.TenantBook.{Entry, kept_in, with_changed}
use Rattle.upload_book.specs.inside.Ids.{AreBelow}

-- the tenant's part, and for how many rows there is room
pub record Rows : Type 0 where
  pub part : HeadPart
  pub room : ℕ

-- the rows that are kept so
abbrev pub rows_of : Inside → Rows
rows_of r = record {
  part = record { quota = r.quota; next = r.next; uploads = r.list.rows };
  room = r.list.room;
}

-- of a tenant's rows the one under an id grew, if it stands there, and no more changed
abbrev pub IsGrown : Rows → ℕ → Growth → Bool → Rows → Type 0
IsGrown before id growth true after =
    (row : HeadRow) × (kept_in before.part.uploads id ≡ Some row) × ((id == before.part.next) ≡ false) × (after ≡ record before { part = with_changed before.part id (row_grown growth row) })
IsGrown before id growth false after = (kept_in before.part.uploads id ≡ None) × (after ≡ before)

-- the ids of rows
abbrev pub row_ids : List (Entry HeadRow) → List ℕ
row_ids rows = map {A = Entry HeadRow} {B = ℕ} (λ e. e.id) rows

-- the earlier of two ends, where there are any
abbrev pub earlier : Option ℕ → Option ℕ → Option ℕ
earlier None end = end
earlier (Some end) None = Some end
earlier (Some one) (Some other) = Some (min one other)

-- an end is not before a bound; where there is no bound, there is no end
abbrev pub IsNotBefore : Option ℕ → Option ℕ → Type 0
IsNotBefore bound None = ⊤
IsNotBefore None (Some end) = ⊥
IsNotBefore (Some bound) (Some end) = bound ≤ end

-- no row ends before a bound
abbrev pub AreBounded : Option ℕ → List (Entry HeadRow) → Type 0
AreBounded bound rows = All (λ (e : Entry HeadRow). IsNotBefore bound e.kept.expires) rows

-- no row has expired at a moment
abbrev pub AreFresh : ℕ → List (Entry HeadRow) → Type 0
AreFresh now rows = All (λ (e : Entry HeadRow). has_expired now e.kept.expires ≡ false) rows

-- the ids are as they should be
abbrev pub AreRows : Inside → Type 0
AreRows r = AreBelow r.next r.list.rows
