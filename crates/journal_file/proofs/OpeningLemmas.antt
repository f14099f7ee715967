-- What is told of a file that is no journal.
use Rattle.std.proofs.Common.{◌≡◌, ℕ, Bool, List, IsTrue, subst}
use Rattle.journal_file.specs.declared.error.Damage.{Damage}
use Rattle.journal_file.specs.declared.error.JournalError.{JournalError}
use Rattle.journal_file.specs.declared.error.JournalError.TheVariants.{NoRoom, Unusable, NotMixing, Damaged, Memory, Disk}
use Rattle.journal_file.specs.JournalError.{IsDamagedAt, IsReason, Reasons, TellsDamage}

-- the place of a damage is that of the file which this disk had, too
pub damage-told : {D : Type 0} (seen : D → List ℕ) (is_clean : D → Bool) (key : ℕ) (first opened last : D) (reasons : Reasons) (why : JournalError)
    → IsReason reasons why
    → ((damage : Damage) → reasons.damaged damage → IsTrue (is_clean last) → IsDamagedAt key (seen opened) damage)
    → seen opened ≡ seen first
    → TellsDamage seen is_clean key first why
damage-told seen is_clean key first opened last reasons NoRoom is told same = tt
damage-told seen is_clean key first opened last reasons Unusable is told same = tt
damage-told seen is_clean key first opened last reasons NotMixing is told same = tt
damage-told seen is_clean key first opened last reasons (Damaged damage) is told same =
    (last, λ clean. subst (λ (file : List ℕ). IsDamagedAt key file damage) same (told damage is clean))
damage-told seen is_clean key first opened last reasons Memory is told same = tt
damage-told seen is_clean key first opened last reasons (Disk error) is told same = tt
