-- What a journal that is still being written has in its file.
use Rattle.std.specs.Prelude.{◌≡◌, ℕ, List, length}
use Rattle.std.specs.List.{AllByRecursion}
use Rattle.sqlite_disk.specs.declared.Disk.{Ghosts}
use Rattle.journal_file.specs.Journal.{BeginsWith}
use Rattle.journal_file.specs.declared.draft.Draft.{Draft}
use Rattle.journal_frames.specs.Frames.{frames, Fits}

module _ {D : Type 0} {g : Ghosts D} where
  abbrev pub draft_disk : Draft D g → D
  draft_disk draft = draft.disk

  abbrev pub draft_key : Draft D g → ℕ
  draft_key draft = draft.key

  -- how many bytes its frames have
  abbrev pub draft_end : Draft D g → ℕ
  draft_end draft = draft.end

-- The file begins with the frames of these payloads. What stands behind them may be anything, and what a crash leaves of the
-- file is not told.
pub record IsDraft {D : Type 0} {g : Ghosts D} (draft : Draft D g) (payloads : List (List ℕ)) : Type 0 where
  pub file : BeginsWith (frames draft.key payloads) (g.seen draft.disk)
  pub place : length (frames draft.key payloads) ≡ draft.end
  pub fits : AllByRecursion Fits payloads
