-- What a journal keeps in its file, and what a crash may leave of it.
use Rattle.std.specs.Prelude.{◌≡◌, ◌⊎◌, ℕ, ◌+◌, ◌-◌, ◌<◌, List, ◌++◌, length, slice_index}
use Rattle.std.specs.List.{AllByRecursion}
use Rattle.sqlite_disk.specs.declared.Disk.{Ghosts}
use Rattle.journal_file.specs.declared.journal.Journal.{Journal}
use Rattle.journal_frames.specs.Crash.{zeros}
use Rattle.journal_frames.specs.Frames.{frames, Fits}

-- What is left of bytes of which the first, so many, were synced: these, and behind them each byte as it reads, or 0.
pub record MayLose (synced : ℕ) (file left : List ℕ) : Type 0 where
  pub len : length left ≡ length file
  pub same : (i : ℕ) → i < synced → slice_index left i ≡ slice_index file i
  pub each : (i : ℕ) → i < length file → (slice_index left i ≡ slice_index file i) ⊎ (slice_index left i ≡ 0)

-- a file begins with these bytes; what stands behind them may be anything
pub record BeginsWith (front file : List ℕ) : Type 0 where
  pub rest : List ℕ
  pub is : file ≡ front ++ rest

-- a crash leaves a file that begins with what is left of these bytes, of which the first were synced
pub record LosesOf (synced : ℕ) (front left : List ℕ) : Type 0 where
  pub kept : List ℕ
  pub lost : MayLose synced front kept
  pub begins : BeginsWith kept left

-- a crash leaves what one could have left before, or that after a step
abbrev pub LeavesOldOr : (List ℕ → List ℕ → Type 0) → (List ℕ → Type 0) → (List ℕ → Type 0) → Type 0
LeavesOldOr step old new = (c : List ℕ) → new c → old c ⊎ ((d : List ℕ) × old d × step d c)

module _ {D : Type 0} {g : Ghosts D} where
  abbrev pub disk_of : Journal D g → D
  disk_of journal = journal.disk

  abbrev pub key_of : Journal D g → ℕ
  key_of journal = journal.key

  -- how many bytes may be appended: behind them 16 zeros stay
  abbrev pub room_of : Journal D g → ℕ
  room_of journal = journal.blank - 16

  -- how many bytes the frames have
  abbrev pub end_of : Journal D g → ℕ
  end_of journal = journal.end

  -- how far the zeros reach
  abbrev pub len_of : Journal D g → ℕ
  len_of journal = journal.end + journal.blank

-- The file begins with the frames of these payloads, of which the first ones were synced, and zeros. A crash leaves what
-- was synced, and of each other byte of these what it reads or 0. What stands behind the zeros may be anything: more room
-- that could not be had may have left something there.
pub record IsJournal {D : Type 0} {g : Ghosts D} (journal : Journal D g) (synced unsynced : List (List ℕ)) : Type 0 where
  pub file : BeginsWith (frames journal.key (synced ++ unsynced) ++ zeros journal.blank) (g.seen journal.disk)
  pub place : length (frames journal.key (synced ++ unsynced)) ≡ journal.end
  pub fits : AllByRecursion Fits synced
  pub more_fits : AllByRecursion Fits unsynced
  pub loss : (c : List ℕ) → g.may_leave journal.disk c
      → LosesOf (length (frames journal.key synced)) (frames journal.key (synced ++ unsynced) ++ zeros journal.blank) c
