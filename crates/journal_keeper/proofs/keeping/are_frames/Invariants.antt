use Rattle.std.proofs.Common.{◌≡◌, ℕ, List, map, take}
use Rattle.std.specs.List.{AllByRecursion}
use Rattle.journal_file.specs.Appending.{frames_each}
use Rattle.journal_frames.specs.Frames.{Fits}
use Rattle.journal_keeper.proofs.keeping.are_frames.Given as goal

-- the first frames hold their payloads
abbrev pub invariant-loop-frame : goal.invariant-loop-frame
invariant-loop-frame l = (key : ℕ) (more : List (List ℕ)) → map (λ frame. frame.items) l.waiting ≡ frames_each key more → AllByRecursion Fits (take l.frame-index more)
