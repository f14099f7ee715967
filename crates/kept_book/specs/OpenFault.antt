-- Why a kept book is not opened.
use Rattle.std.specs.Prelude.{ℕ, Bool, List, ⊤}
use Rattle.book_replay.specs.declared.fault.ReplayFault.TheVariants.{Record}
use Rattle.journal_file.specs.JournalError.{TellsDamage}
use Rattle.journal_file.specs.declared.error.JournalError.TheVariants.{Damaged}
use Rattle.kept_book.specs.declared.fault.OpenFault.{OpenFault}
use Rattle.kept_book.specs.declared.fault.OpenFault.TheVariants.{Journal, Replay}

-- it lies in something else than what the file has: the file is not called damaged, and none of its records refused
abbrev pub IsOutsideFile : OpenFault → Type 0
IsOutsideFile (Journal (Damaged damage)) = ⊥
IsOutsideFile (Replay (Record number)) = ⊥
IsOutsideFile why = ⊤

-- where it is damage, the place is true of the file that the disk had at first
abbrev pub TellsPlace : {D : Type 0} → (D → List ℕ) → (D → Bool) → ℕ → D → OpenFault → Type 0
TellsPlace seen is_clean key first (Journal why) = TellsDamage seen is_clean key first why
TellsPlace seen is_clean key first why = ⊤
