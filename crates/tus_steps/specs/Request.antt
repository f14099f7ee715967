-- A request as bytes (tus 1.0.0, Core Protocol and Creation).
use Rattle.std.specs.Prelude.{ℕ, List}
use Rattle.tus_text.specs.declared.path.Path.{Path}
use Rattle.tus_steps.specs.declared.method.Method.{Method}
use Rattle.tus_steps.specs.declared.range.RangeAsked.{RangeAsked}
use Rattle.tus_steps.specs.declared.tus_fields.TusFields.{TusFields}
use Rattle.tus_steps.specs.Field.{FieldText}

-- Its method, what its target names, the texts of the fields that count, which bytes it asks for where it is a GET, and its body. Where the body comes in pieces these
-- are the bytes of one: so many were given before them, and so many are to come behind them.
pub record Request : Type 0 where
  pub method : Method
  pub path : Path
  pub fields : TusFields FieldText
  pub range : RangeAsked
  pub body : List ℕ
  pub given : ℕ
  pub more : ℕ
