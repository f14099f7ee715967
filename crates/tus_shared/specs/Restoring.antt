-- Changes and events that restore no piece of a snapshot. Pieces come out of a journal alone, as a start makes its book again.
use Rattle.std.specs.Prelude.{◌≢◌, List, All}
use Rattle.upload_book.specs.declared.change.Change.{Change}
use Rattle.upload_book.specs.declared.change.Change.TheVariants.{Restore}
use Rattle.upload_book.specs.declared.restored.Restored.{Restored}
use Rattle.head_board.specs.Event.{Event}

-- the change restores no piece of a snapshot
abbrev pub RestoresNothing : Change → Type 0
RestoresNothing change = (restored : Restored) → change ≢ Restore restored

-- none of the events does
abbrev pub RestoreNothing : List Event → Type 0
RestoreNothing events = All (λ (e : Event). RestoresNothing e.change) events
