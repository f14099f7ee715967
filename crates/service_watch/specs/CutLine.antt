-- One connection that was cut off, as a line of the log tells it.
use Rattle.std.specs.Prelude.{ℕ, List}
use Rattle.service_watch.specs.declared.cut.Cut.{Cut}

pub record CutLine : Type 0 where
  pub moment : ℕ
  pub peer : List ℕ
  pub cut : Cut
