use Rattle.std.proofs.Common.{ℕ, ◌≡◌, ◌≤◌, ◌+◌, ◌++◌, ◌∷◌, [], length, take, subst, arith, length-take}
use Rattle.std.specs.Vec.{vec_capacity}
use Rattle.block_pool.specs.Blocks.{places_of}
use Rattle.block_bodies.specs.Changes.{Puts}
use Rattle.block_bodies.proofs.Putting.{Puts-start, len-fits, StandsOnce-push}
use Rattle.block_bodies.proofs.body.Body.start_block.Goals as goal

pub overflow_add-self : goal.overflow_add-self
overflow_add-self c =
    let body = rw (← c.self.view_is) at c.requires.body in
    let bound = len-fits c.args.pool.now _ c.block_size.ensures.pool body c.self.invariant in
    let piece : c.min-n.result ≤ c.block_size.result = omega (arith, c.min-n.ensures) in
    omega (arith, bound.0, bound.2, c.block_size.ensures.value, c.block_size.ensures.pool.limits.small_blocks)

pub take_with-requires : goal.take_with-requires
take_with-requires c = omega (arith, c.min-n.ensures, c.block_size.ensures.value, length-take c.min-n.result c.args.bytes.now)

pub invariant_of-self : goal.invariant_of-self
invariant_of-self c =
    let body = rw (← c.self.view_is) at c.requires.body in
    let taken = rw c.unwrap-block.ensures at c.take_with.ensures.some in
    let none : places_of c.unwrap-block.result c.self.inside.blocks.items ≡ 0 = omega (arith, body.held.each c.unwrap-block.result, taken.free) in
    rw c.push_reserved.ensures.items (StandsOnce-push c.self.inside.blocks.items c.unwrap-block.result c.self.invariant none)

pub returns-clause-puts : goal.returns-clause-puts
returns-clause-puts c =
    let body = rw (← c.self.view_is) at c.requires.body in
    let whole = rw (← c.self.view_is) at c.requires.whole in
    let taken = rw c.unwrap-block.ensures at c.take_with.ensures.some in
    let first = rw c.unwrap-block.ensures at c.take_with.ensures.first in
    let piece : length (take c.min-n.result c.args.bytes.now) ≡ c.min-n.result = omega (arith, c.min-n.ensures, length-take c.min-n.result c.args.bytes.now) in
    let P : ℕ → Type 0 = λ n. Puts c.args.pool.now
    (record { blocks = c.self.inside.blocks.items; len = c.self.inside.len; room = vec_capacity c.self.inside.blocks })
    (take c.min-n.result c.args.bytes.now)
    c.take_with.new.self
    (record { blocks = c.self.inside.blocks.items ++ c.unwrap-block.result ∷ []; len = c.self.inside.len + n; room = vec_capacity c.self.inside.blocks }) in
    rw (← c.self.view_is, c.push_reserved.ensures.items, c.push_reserved.ensures.capacity)
    (subst P piece (Puts-start c.args.pool.now c.take_with.new.self _ c.unwrap-block.result (take c.min-n.result c.args.bytes.now)
    c.block_size.ensures.pool body whole (omega (arith, c.min-n.ensures, c.requires.some, c.block_size.ensures.value, c.block_size.ensures.pool.limits.some_bytes))
    (omega (arith, c.min-n.ensures, c.block_size.ensures.value)) taken first))
