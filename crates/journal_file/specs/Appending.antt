-- Frames that are appended, each in a list of its own.
use Rattle.std.specs.Prelude.{ℕ, List, [], ◌∷◌, length, map}
use Rattle.std.specs.List.{sum_by}
use Rattle.journal_frames.specs.Frames.{frames}

-- the frames of payloads under a key, one each, in their order
abbrev pub frames_each : ℕ → List (List ℕ) → List (List ℕ)
frames_each key payloads = map {A = List ℕ} {B = List ℕ} (λ (payload : List ℕ). frames key (payload ∷ [])) payloads

-- how many bytes lists have together
abbrev pub total_len : List (List ℕ) → ℕ
total_len lists = sum_by (λ (bytes : List ℕ). length bytes) lists
