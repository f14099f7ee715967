-- The upload that a creation asks for (tus 1.0.0, Creation and Concatenation).
use Rattle.std.specs.Prelude.{ℕ, Bool, List, Option}

-- whether it is a part of a later final upload, its length where that is known, and its texts
pub record NewUpload : Type 0 where
  pub partial : Bool
  pub length : Option ℕ
  pub metadata : List ℕ
  pub concat : List ℕ
