use Rattle.std.proofs.Common.{true≢false, ap, sym, ◌∙◌}
use Rattle.block_bodies.specs.Bodies.{Chain}
use Rattle.block_bodies.proofs.body.Body.read.Goals as goal

pub returns-in_err-bytes-clause-empty : goal.returns-in_err-bytes-clause-empty
returns-in_err-bytes-clause-empty c =
    λ e. absurd (true≢false (sym (c.in_err-bytes.ensures.succeeds (ap (λ (x : Chain). x.len) c.self.view_is ∙ e))))
