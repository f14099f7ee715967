use Rattle.std.proofs.Common.{◌≡◌, ◌-◌, ◌^◌, map, take, min}
use Rattle.journal_file.specs.Appending.{total_len}
use Rattle.journal_keeper.proofs.keeping.len_of_all.Given as goal

abbrev pub invariant-loop-frame : goal.invariant-loop-frame
invariant-loop-frame l = l.total ≡ min (total_len (take l.frame-index (map (λ frame. frame.items) l.frames))) (2 ^ 64 - 1)
