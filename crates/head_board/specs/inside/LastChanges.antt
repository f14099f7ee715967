-- Up to which event what is told of an upload last changed. There are 256 slots, and an id has that of its remainder.
use Rattle.std.specs.Prelude.{ℕ, ◌%◌, List, [], replicate, set, slice_index_or}
use Rattle.upload_book.specs.declared.head_note.NotedChange.{NotedChange}
use Rattle.upload_book.specs.declared.head_note.NotedChange.TheVariants.{Created, Shared, Grown, Gone, Swept, Next, Totals}
use Rattle.upload_book.specs.Heads.{Heads, head_part_at}
use Rattle.head_board.specs.NoBoard.{no_log}
use Rattle.head_board.specs.inside.EventLog.{LogPrefix}

-- no event of no log
abbrev pub no_events : LogPrefix
no_events = record { book = no_log; events = [] }

-- the events of an id's slot
abbrev pub last_of : List LogPrefix → ℕ → LogPrefix
last_of slots id = slice_index_or slots (id % 256) no_events

-- what is told under an id changed by the last of these events
abbrev pub marked : List LogPrefix → ℕ → LogPrefix → List LogPrefix
marked slots id after = set slots (id % 256) after

-- so it may have under every id
abbrev pub all_marked : LogPrefix → List LogPrefix
all_marked after = replicate 256 after

-- A change came to heads by it: a new upload gets the next id of its tenant, a sweep may end any upload, and a next id
-- may tell of any id that nothing stands under it.
abbrev pub last_after : List LogPrefix → Heads → NotedChange → LogPrefix → List LogPrefix
last_after slots h (Created tenant row) after = marked slots (head_part_at h tenant).next after
last_after slots h (Shared tenant row) after = marked slots (head_part_at h tenant).next after
last_after slots h (Grown name growth) after = marked slots name.id after
last_after slots h (Gone name) after = marked slots name.id after
last_after slots h (Swept now) after = all_marked after
last_after slots h (Next name) after = all_marked after
last_after slots h Totals after = slots
