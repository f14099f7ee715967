use Rattle.std.proofs.Common.{ℕ, List, [], ap, ◌∙◌, vec_capacity}
use Rattle.block_bodies.specs.Bodies.{Chain}
use Rattle.block_bodies.proofs.body.Body.empty.Goals as goal

pub returns-clause-value : goal.returns-clause-value
returns-clause-value c =
    let shown : List ℕ → ℕ → Chain = λ items room. record { blocks = items; len = 0; room = room } in
    ap (λ items. shown items (vec_capacity c.new.result)) c.new.ensures.items ∙ ap (λ room. shown [] room) c.new.ensures.capacity
