-- What a crash leaves of a disk that tears: each byte as it reads, or as it was synced.
use Rattle.std.specs.Prelude.{◌≡◌, ◌⊎◌, ℕ, ◌<◌, List, length, slice_index, refl}
use Rattle.std.proofs.Common.{inl}

-- where the file was shorter when it was synced, a byte was 0
pub record MayTear (file synced left : List ℕ) : Type 0 where
  pub len : length left ≡ length file
  pub each : (i : ℕ) → i < length file → (slice_index left i ≡ slice_index file i) ⊎ (slice_index left i ≡ slice_index synced i)

-- what it reads is one of these
pub tears-refl : (file synced : List ℕ) → MayTear file synced file
tears-refl file synced = record { len = refl; each = λ i lt. inl refl }
