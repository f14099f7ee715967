-- Which changes a table of heads has room for, and what a line or a note makes of it.
use Rattle.std.specs.Prelude.{ℕ, ◌<◌, Bool, true, not, ◌==◌, ◌&&◌, ◌||◌, length, nat_le, nat_lt, if◌then◌else◌}
use Rattle.std.specs.Option.{option_map_or}
use Rattle.upload_book.specs.declared.board_line.BoardLine.{BoardLine}
use Rattle.upload_book.specs.declared.board_line.HeadChange.{HeadChange}
use Rattle.upload_book.specs.declared.board_line.HeadChange.TheVariants.{Put, Gone, Swept, Next, Totals}
use Rattle.upload_book.specs.declared.head_note.HeadNote.{HeadNote}
use Rattle.upload_book.specs.declared.head_note.NotedChange.{NotedChange}
use Rattle.upload_book.specs.declared.head_note.NotedChange.TheVariants.{Created, Shared}
use Rattle.upload_book.specs.HeadNotes.{line_told}
use Rattle.upload_book.specs.Heads.{Heads, HeadPart, apply_line, head_part_at}

-- A part with room for so many rows takes one under this id. For a new upload there must be room for one more row,
-- and the id may be no more than the last one.
abbrev pub takes_row : ℕ → ℕ → HeadPart → ℕ → Bool
takes_row room last_id part id =
    not (id == part.next) || (nat_lt (length part.uploads) room && nat_le part.next last_id)

-- There is room for a change: a row that is put is taken, and so is a next id where none is given again, unless there is no
-- such tenant.
abbrev pub has_room : Heads → HeadChange → Bool
has_room h (Put name row) =
    nat_le (length h.tenants) name.tenant
    || takes_row h.settings.numbers.uploads h.settings.numbers.last_id (head_part_at h name.tenant) name.id
has_room h (Gone name) = true
has_room h (Swept now) = true
has_room h (Next name) = nat_le (length h.tenants) name.tenant || nat_le (head_part_at h name.tenant).next name.id
has_room h Totals = true

-- A change may find no memory where it brings the row of a new upload, and there is no box for that.
abbrev pub MayLackRow : ℕ → NotedChange → Type 0
MayLackRow uploads (Created tenant row) = 64 < uploads
MayLackRow uploads (Shared tenant row) = 64 < uploads
MayLackRow uploads change = ⊥

-- the heads after a line, which changes nothing where there is no room for it
abbrev pub heads_with : Heads → BoardLine → Heads
heads_with h line = if has_room h line.change then apply_line h line else h

-- the heads after a note, which changes nothing where it stands for no line on them
abbrev pub heads_noted : Heads → HeadNote → Heads
heads_noted h note = option_map_or (heads_with h) (line_told h note) h
