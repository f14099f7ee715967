-- Why a call of a journal failed.
use Rattle.std.specs.Prelude.{◌≡◌, ◌≢◌, ℕ, Bool, false, List, length, ⊤, IsTrue}
use Rattle.journal_frames.specs.Frames.{frames, recovered, tail_of}
use Rattle.journal_frames.specs.declared.tail.Tail.TheVariants.{Torn}
use Rattle.journal_file.specs.declared.error.Damage.{Damage}
use Rattle.journal_file.specs.declared.error.JournalError.{JournalError}
use Rattle.journal_file.specs.declared.error.JournalError.TheVariants.{NoRoom, Unusable, NotMixing, Damaged, Memory, Disk}

-- it was found before the disk was asked for anything
abbrev pub IsRefusal : JournalError → Type 0
IsRefusal NoRoom = ⊤
IsRefusal Unusable = ⊤
IsRefusal NotMixing = ⊤
IsRefusal why = ⊥

-- A file is damaged there: behind its whole frames stands what no crash leaves. The place is how many bytes these frames have.
pub record IsDamagedAt (key : ℕ) (file : List ℕ) (damage : Damage) : Type 0 where
  pub tail : tail_of key file ≢ Torn
  pub place : damage.at ≡ length (frames key (recovered key file))
  pub len : damage.len ≡ length file

-- Where an error is damage, it is that of the file which the disk had at first. At last it was this disk, and if it told no
-- lie, that is true.
abbrev pub TellsDamage : {D : Type 0} → (D → List ℕ) → (D → Bool) → ℕ → D → JournalError → Type 0
TellsDamage {D} seen is_clean key first (Damaged damage) = (last : D) × (IsTrue (is_clean last) → IsDamagedAt key (seen first) damage)
TellsDamage seen is_clean key first why = ⊤

-- what is so where a call fails for each reason
pub record Reasons : Type 1 where
  pub no_room : Type 0
  pub is_usable : Bool
  pub is_mixing : Bool
  pub damaged : Damage → Type 0
  pub memory : Type 0
  pub disk : Type 0

abbrev pub IsReason : Reasons → JournalError → Type 0
IsReason reasons NoRoom = reasons.no_room
IsReason reasons Unusable = reasons.is_usable ≡ false
IsReason reasons NotMixing = reasons.is_mixing ≡ false
IsReason reasons (Damaged damage) = reasons.damaged damage
IsReason reasons Memory = reasons.memory
IsReason reasons (Disk error) = reasons.disk
