-- What a file that a kept book left is not called.
use Rattle.std.proofs.Common.{◌≡◌, ℕ, Bool, List, Result, Ok, Err, IfErr, IfOk, IsTrue, refl, subst}
use Rattle.book_replay.specs.Fault.{IsReplayFault}
use Rattle.book_replay.specs.declared.fault.ReplayFault.{ReplayFault}
use Rattle.book_replay.specs.declared.fault.ReplayFault.TheVariants as replay
use Rattle.journal_file.specs.declared.error.Damage.{Damage}
use Rattle.journal_file.specs.declared.error.JournalError.{JournalError}
use Rattle.journal_file.specs.declared.error.JournalError.TheVariants.{NoRoom, Unusable, NotMixing, Damaged, Memory, Disk}
use Rattle.journal_file.specs.JournalError.{IsDamagedAt, IsReason, Reasons}
use Rattle.upload_book.specs.PlainBook.{PlainBook}
use Rattle.kept_book.specs.declared.fault.OpenFault.{OpenFault}
use Rattle.kept_book.specs.declared.fault.OpenFault.TheVariants as opens
use Rattle.kept_book.specs.declared.fault.OpenFault.TheVariants.{Journal, Replay}
use Rattle.kept_book.specs.OpenFault.{IsOutsideFile, TellsPlace}

-- a journal was not opened, and its file is not damaged
pub not-damaged : (reasons : Reasons) (why : JournalError) → IsReason reasons why → ((damage : Damage) → ¬ reasons.damaged damage) → IsOutsideFile (Journal why)
not-damaged reasons NoRoom is none = tt
not-damaged reasons Unusable is none = tt
not-damaged reasons NotMixing is none = tt
not-damaged reasons (Damaged damage) is none = absurd (none damage is)
not-damaged reasons Memory is none = tt
not-damaged reasons (Disk error) is none = tt

-- no book was made of records, of which one is
pub not-refused : (made : Result PlainBook ℕ) (b : PlainBook) (why : ReplayFault) → IsReplayFault made why → made ≡ Ok b → IsOutsideFile (Replay why)
not-refused made b (replay.Record number) is all = absurd cc
not-refused made b replay.Memory is all = tt

-- the place of a damage is that of the file which this disk had, too
pub place-told : {D : Type 0} (seen : D → List ℕ) (is_clean : D → Bool) (key : ℕ) (first opened last : D) (why : OpenFault)
    → ((damage : Damage) → why ≡ Journal (Damaged damage) → IsTrue (is_clean last) → IsDamagedAt key (seen opened) damage)
    → seen opened ≡ seen first
    → TellsPlace seen is_clean key first why
place-told seen is_clean key first opened last (Journal NoRoom) told same = tt
place-told seen is_clean key first opened last (Journal Unusable) told same = tt
place-told seen is_clean key first opened last (Journal NotMixing) told same = tt
place-told seen is_clean key first opened last (Journal (Damaged damage)) told same =
    (last, λ clean. subst (λ (file : List ℕ). IsDamagedAt key file damage) same (told damage refl clean))
place-told seen is_clean key first opened last (Journal Memory) told same = tt
place-told seen is_clean key first opened last (Journal (Disk error)) told same = tt
place-told seen is_clean key first opened last (Replay why) told same = tt
place-told seen is_clean key first opened last opens.Memory told same = tt

-- ---- where a disk told no lie

-- what holds of an opened book whose disk is this one
pub clean-ok : {T E X : Type 0} (r : Result T E) (disk : T → X) (d : X) (IsClean : X → Type 0) (P : T → Type 0) → IfOk r (λ t. disk t ≡ d) → (IsClean d → IfOk r P) → IfOk r (λ t. IsClean (disk t) → P t)
clean-ok (Ok t) disk d IsClean P same holds = λ clean. holds (subst IsClean same clean)
clean-ok (Err e) disk d IsClean P same holds = tt

-- and of one that is not opened
pub clean-err : {T E X : Type 0} (r : Result T E) (disk : E → X) (d : X) (IsClean : X → Type 0) (P : E → Type 0) → IfErr r (λ e. disk e ≡ d) → (IsClean d → IfErr r P) → IfErr r (λ e. IsClean (disk e) → P e)
clean-err (Ok t) disk d IsClean P same holds = tt
clean-err (Err e) disk d IsClean P same holds = λ clean. holds (subst IsClean same clean)

-- what follows of an error
pub err-weaker : {T E : Type 0} (r : Result T E) (P Q : E → Type 0) → ((e : E) → P e → Q e) → IfErr r P → IfErr r Q
err-weaker (Ok t) P Q step p = tt
err-weaker (Err e) P Q step p = step e p
