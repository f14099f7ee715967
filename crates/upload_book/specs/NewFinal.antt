-- What a concatenation asks for (tus 1.0.0, Concatenation).
use Rattle.std.specs.Prelude.{ℕ, List, Option}

-- the parts in their order, each by its id, or none where its path is that of another tenant; and its texts
pub record NewFinal : Type 0 where
  pub parts : List (Option ℕ)
  pub metadata : List ℕ
  pub concat : List ℕ
