-- What a write of a text did.
use Rattle.std.specs.Prelude.{◌≡◌, ◌≤◌, ℕ, Bool, List, length, take, Option, Result, OnOk, OnErr, IfErr, is_err}
use Rattle.std.specs.Io.KnownBytes.{Appends}
use Rattle.http_wire.specs.declared.fault.WireFault.{WireFault}
use Rattle.http_wire.specs.declared.fault.WireFault.TheVariants.{Write}

-- All of the text was written, after what the writer contained, and the writer has not failed; or it has, and
-- then the fault says so, and a prefix of the text was written.
pub record Writes {T : Type 0} (before after : Option (List ℕ)) (has_failed : Bool) (text : List ℕ) (r : Result T WireFault) : Type 0 where
  pub all : OnOk r (Appends before after text)
  pub prefix : OnErr r ((n : ℕ) × (n ≤ length text) × Appends before after (take n text))
  pub failed : has_failed ≡ is_err r
  pub fault : IfErr r (λ e. e ≡ Write)
