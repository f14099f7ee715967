-- A journal that is made small: a new one is written beside it, and takes its place.
use Rattle.std.specs.Prelude.{◌≡◌, ℕ, ◌+◌, List, ◌++◌, length, map}
use Rattle.std.specs.List.{AllByRecursion}
use Rattle.sqlite_disk.specs.declared.Disk.{Ghosts}
use Rattle.journal_file.specs.Draft.{draft_key, IsDraft}
use Rattle.book_replay.specs.Snapshot.{behind_room}
use Rattle.journal_frames.specs.Frames.{Fits}
use Rattle.journal_keeper.specs.declared.compaction.Compaction.{Compaction}
use Rattle.journal_keeper.specs.Keeper.{MakeBook}
use Rattle.journal_file.specs.Appending.{frames_each}
use Rattle.upload_book.specs.Settings.{Settings}
use Rattle.head_board.specs.Event.{Event}

-- The new journal is to have these records, under this key: those that are written, those of the pieces of a snapshot that are
-- not yet, and those that were kept since.
pub record WillHave {D : Type 0} {g : Ghosts D} (c : Compaction D g) (key : ℕ) (records : List (List ℕ)) : Type 0 where
  pub key_is : draft_key c.draft ≡ key
  pub written : List (List ℕ)
  pub pieces : List (List ℕ)
  pub since : List (List ℕ)
  pub all : written ++ (pieces ++ since) ≡ records
  pub draft : IsDraft c.draft written
  pub pieces_are : map (λ room. room.items) c.pieces.items ≡ map behind_room pieces
  pub since_are : map (λ frame. frame.items) c.since.items ≡ frames_each key since
  pub fit : AllByRecursion Fits (pieces ++ since)

-- how many of them are not written
abbrev pub waiting_in : {D : Type 0} {g : Ghosts D} → Compaction D g → ℕ
waiting_in c = length c.pieces.items + length c.since.items

-- of these records the plain book after the events that are kept is made
pub record WillKeep {D : Type 0} {g : Ghosts D} (s : Settings) (c : Compaction D g) (key : ℕ) (kept : List Event) : Type 0 where
  pub records : List (List ℕ)
  pub have : WillHave c key records
  pub make : MakeBook s kept records
