-- Lines that wait to be written, and how many were lost.
use Rattle.std.specs.Prelude.{ℕ, ◌+◌, ◌-◌, ◌^◌, min, List, ◌++◌, Bool, if◌then◌else◌}

pub record Log : Type 0 where
  pub waiting : List ℕ
  pub lost : ℕ

-- some lines more that are lost, up to the greatest number
abbrev pub lost_more : ℕ → Log → Log
lost_more n l = record l { lost = min (l.lost + n) (2 ^ 64 - 1) }

-- a line behind the others; or it was lost
abbrev pub with_line : Bool → List ℕ → Log → Log
with_line is_put text l = if is_put then record l { waiting = l.waiting ++ text } else lost_more 1 l
