-- What is read of no bytes, and of frames.
use Rattle.std.proofs.Common.{◌≡◌, ℕ, List, [], ◌++◌, refl, sym, ap, ◌∙◌}
use Rattle.std.specs.List.{AllByRecursion}
use Rattle.std.proofs.lemmas.List.{append-nil}
use Rattle.journal_frames.specs.Frames as reading
use Rattle.journal_frames.specs.Frames.{Fits, frames, recovered}
use Rattle.journal_frames.proofs.WholeFrames.{frames_again}

pub nothing-recovered : (key : ℕ) → recovered key [] ≡ []
unfolding reading.read_past
nothing-recovered key = refl

-- frames are read again
pub recovered-frames : (key : ℕ) (payloads : List (List ℕ)) → AllByRecursion Fits payloads → recovered key (frames key payloads) ≡ payloads
recovered-frames key payloads fits =
    ap (recovered key) (sym (append-nil (frames key payloads))) ∙ (frames_again key payloads [] fits).0 ∙ ap (λ (ps : List (List ℕ)). payloads ++ ps) (nothing-recovered key) ∙ append-nil payloads
