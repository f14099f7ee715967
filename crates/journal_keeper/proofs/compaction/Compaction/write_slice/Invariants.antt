use Rattle.std.proofs.Common.{ℕ, List}
use Rattle.journal_keeper.specs.Compaction.{waiting_in, WillHave}
use Rattle.journal_keeper.proofs.compaction.Compaction.write_slice.Given as goal

-- it is to have the same records
abbrev pub invariant-slice : goal.invariant-slice
invariant-slice g l = (key : ℕ) (records : List (List ℕ)) → WillHave l.fn.self key records → WillHave l.self key records

abbrev pub decreases-slice : goal.decreases-slice
decreases-slice g l = waiting_in l.self
