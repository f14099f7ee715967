-- What is found in a file that a crash may have left.
use Rattle.std.specs.Prelude.{◌≡◌, ℕ, List, ◌++◌, length, drop}
use Rattle.std.specs.List.{AllByRecursion}
use Rattle.journal_file.specs.declared.recovered.Recovered.{Recovered}
use Rattle.journal_file.specs.Journal.{BeginsWith}
use Rattle.journal_frames.specs.Crash.{IsTornTail, zeros}
use Rattle.journal_frames.specs.Frames.{frames, recovered, Fits}

-- the file is whole frames up to there, and behind them a torn tail
pub record EndsAt (key : ℕ) (file : List ℕ) (end : ℕ) : Type 0 where
  pub whole : file ≡ frames key (recovered key file) ++ drop end file
  pub place : length (frames key (recovered key file)) ≡ end
  pub fits : AllByRecursion Fits (recovered key file)
  pub tail : IsTornTail key (drop end file)

-- the frames of all payloads that are recovered of a file, and what the file begins with after it: these and zeros
pub record IsRecovered (key : ℕ) (old new : List ℕ) (found : Recovered) : Type 0 where
  pub bytes : found.frames.items ≡ frames key (recovered key old)
  pub file : BeginsWith (frames key (recovered key old) ++ zeros found.blank) new
  pub fits : AllByRecursion Fits (recovered key old)
