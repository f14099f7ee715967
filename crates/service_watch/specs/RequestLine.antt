-- One request, as a line of the log tells it.
use Rattle.std.specs.Prelude.{ℕ, Bool, List, Option}
use Rattle.tus_steps.specs.declared.method.Method.{Method}

pub record RequestLine : Type 0 where
  pub moment : ℕ
  pub peer : List ℕ
  pub tenant : List ℕ
  pub method : Option Method
  pub path : List ℕ
  pub status : Option ℕ
  pub word : List ℕ
  pub received : ℕ
  pub sent : ℕ
  pub micros : ℕ
  pub was_sent : Bool
