-- What a crash leaves of frames that were written over zeros.
use Rattle.std.specs.Prelude.{◌≡◌, ◌⊎◌, ℕ, ◌≤◌, List, [], ◌++◌, length, take, replicate}
use Rattle.std.specs.List.{AllByRecursion, AllZip}
use Rattle.journal_frames.specs.Frames.{frames, Fits, recovered, tail_of}
use Rattle.journal_frames.specs.declared.tail.Tail.{Tail}
use Rattle.journal_frames.specs.declared.tail.Tail.TheVariants.{Torn, Cut}

abbrev pub zeros : ℕ → List ℕ
zeros n = replicate n 0

-- each byte is as it was written, or 0, as it was before
abbrev pub Loses : List ℕ → List ℕ → Type 0
Loses written left = AllZip (λ byte now. (now ≡ byte) ⊎ (now ≡ 0)) written left

-- what is left of a file: all of the first payloads and the first so many of the others, and this behind them
pub record LeavesWith (tail : Tail) (key : ℕ) (first others : List (List ℕ)) (file : List ℕ) : Type 0 where
  pub kept : ℕ
  pub within : kept ≤ length others
  pub payloads : recovered key file ≡ first ++ take kept others
  pub behind : tail_of key file ≡ tail

-- what a crash leaves: all payloads that were synced and the first so many others, and behind them no damage
abbrev pub Leaves : ℕ → List (List ℕ) → List (List ℕ) → List ℕ → Type 0
Leaves key synced unsynced file = LeavesWith Torn key synced unsynced file

-- A crash may lose any bytes that were written over zeros and not synced. It leaves all frames that were synced, and
-- the first so many others. At least 16 zeros stand behind the frames; what stands behind these does not matter.
abbrev pub LosesWholeFrames : Type 0
LosesWholeFrames = (key : ℕ) (synced unsynced : List (List ℕ)) (left rest : List ℕ)
    → AllByRecursion Fits synced
    → AllByRecursion Fits unsynced
    → Loses (frames key unsynced ++ zeros 16) left
    → Leaves key synced unsynced (frames key synced ++ (left ++ rest))

-- a file of frames that is cut keeps the first so many, whole
abbrev pub CutsWholeFrames : Type 0
CutsWholeFrames = (key : ℕ) (payloads : List (List ℕ)) (n : ℕ)
    → AllByRecursion Fits payloads
    → LeavesWith Cut key [] payloads (take n (frames key payloads))

-- what a crash leaves behind whole frames: no frame, and no damage
pub record IsTornTail (key : ℕ) (file : List ℕ) : Type 0 where
  pub none : recovered key file ≡ []
  pub torn : tail_of key file ≡ Torn

-- such a tail has room for a header; and one that loses more bytes is still such a tail
abbrev pub StaysTorn : Type 0
StaysTorn = (key : ℕ) (file left : List ℕ)
    → IsTornTail key file
    → Loses file left
    → (16 ≤ length file) × IsTornTail key left

-- frames are read again, and what stands behind them is read on
abbrev pub ReadsAgain : Type 0
ReadsAgain = (key : ℕ) (payloads : List (List ℕ)) (rest : List ℕ)
    → AllByRecursion Fits payloads
    → (recovered key (frames key payloads ++ rest) ≡ payloads ++ recovered key rest) × (tail_of key (frames key payloads ++ rest) ≡ tail_of key rest)
