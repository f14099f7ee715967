-- A turn of a desk.
use Rattle.std.specs.Prelude.{ℕ}
use Rattle.tus_steps.specs.Request.{Request}

-- a request, and the moment at which it comes
pub record Turn : Type 0 where
  pub request : Request
  pub now : ℕ
