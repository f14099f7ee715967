use Rattle.std.proofs.Common.{ℕ, ◌≡◌, ◌≤◌, ◌+◌, ◌-◌, ◌*◌, List, length, take, get_or, ap, subst, arith, length-take}
use Rattle.std.specs.Vec.{vec_capacity}
use Rattle.std.proofs.lemmas.List.{get_or_read}
use Rattle.block_pool.specs.Blocks.{written}
use Rattle.block_bodies.specs.Bodies.{Chain}
use Rattle.block_bodies.specs.Changes.{Puts}
use Rattle.block_bodies.proofs.BlocksFor.{some_blocks}
use Rattle.block_bodies.proofs.Putting.{Puts-fill, len-fits, own-at}
use Rattle.block_bodies.proofs.body.Body.fill_last.Goals as goal

pub overflow_add-self : goal.overflow_add-self
overflow_add-self c =
    let body = rw (← c.self.view_is) at c.requires.body in
    let bound = len-fits c.args.pool.now _ c.block_size.ensures.pool body c.self.invariant in
    let piece : c.min-n.result ≤ c.block_size.result = omega (arith, c.min-n.ensures) in
    omega (arith, bound.0, bound.2, c.block_size.ensures.value, c.block_size.ensures.pool.limits.small_blocks)

pub returns-clause-puts : goal.returns-clause-puts
returns-clause-puts c =
    let body = rw (← c.self.view_is) at c.requires.body in
    let own = rw (← c.self.view_is) at c.requires.last in
    let end = rw (← c.self.view_is) at c.requires.end in
    let piece : length (take c.min-n.result c.args.bytes.now) ≡ c.min-n.result = omega (arith, c.min-n.ensures, length-take c.min-n.result c.args.bytes.now) in
    let long : length c.self.inside.blocks.items ≡ c.len.result - 1 + 1 = omega (arith, c.len.ensures, some_blocks c.args.pool.now.block_size c.self.inside.len (length c.self.inside.blocks.items) c.args.filled end c.requires.within_block) in
    let block = get_or_read c.self.inside.blocks.items (c.len.result - 1) c.index-last.result.now (omega (arith, long)) c.index-last.ensures 0 in
    let before : length c.self.inside.blocks.items * c.args.pool.now.block_size ≡ (c.len.result - 1) * c.args.pool.now.block_size + c.args.pool.now.block_size = rw long (omega arith) in
    let P : ℕ → Type 0 = λ n. Puts c.args.pool.now
    (record { blocks = c.self.inside.blocks.items; len = c.self.inside.len; room = vec_capacity c.self.inside.blocks })
    (take c.min-n.result c.args.bytes.now)
    (written c.args.pool.now (get_or c.self.inside.blocks.items (c.len.result - 1) 0) c.args.filled (take c.min-n.result c.args.bytes.now))
    (record { blocks = c.self.inside.blocks.items; len = c.self.inside.len + n; room = vec_capacity c.self.inside.blocks }) in
    rw (← c.self.view_is, c.write.ensures, block)
    (subst P piece (Puts-fill c.args.pool.now _ (c.len.result - 1) c.args.filled (take c.min-n.result c.args.bytes.now)
    c.block_size.ensures.pool body own long (omega (arith, end, before)) c.requires.partial c.requires.within_block
    (omega (arith, piece, c.min-n.ensures, c.block_size.ensures.value, c.requires.within_block))))

pub overflow_sub-block_size : goal.overflow_sub-block_size
overflow_sub-block_size c = omega (arith, c.block_size.ensures.value, c.requires.within_block)

pub slice_bounds-write-end : goal.slice_bounds-write-end
slice_bounds-write-end c = omega (arith, c.min-n.ensures, length-take c.min-n.result c.args.bytes.now)

pub write-requires-clause-held_once : goal.write-requires-clause-held_once
write-requires-clause-held_once c =
    let list = ap (λ (x : Chain). x.blocks) c.self.view_is in
    let some = some_blocks c.args.pool.now.block_size c.args.self.now.len (length c.args.self.now.blocks) c.args.filled c.requires.end c.requires.within_block in
    own-at c.args.pool.now c.args.self.now c.self.inside.blocks.items _ c.index-last.result.now c.args.filled c.requires.last c.requires.end c.requires.within_block
    list c.index-last.ensures (omega (arith, some, ap (λ (bs : List ℕ). length bs) list, c.self.inside.blocks.ok.0))

pub write-requires-clause-within : goal.write-requires-clause-within
write-requires-clause-within c =
    omega (arith, c.min-n.ensures, c.block_size.ensures.value, c.requires.within_block, length-take c.min-n.result c.args.bytes.now)

pub invariant_of-self : goal.invariant_of-self
invariant_of-self c = c.self.invariant

pub returns-clause-some : goal.returns-clause-some
returns-clause-some c = omega (arith, c.min-n.ensures, c.block_size.ensures.value, c.requires.within_block, c.requires.some)

pub returns-clause-within : goal.returns-clause-within
returns-clause-within c = omega (arith, c.min-n.ensures)

pub returns-clause-room_stays : goal.returns-clause-room_stays
returns-clause-room_stays c = ap (λ (x : Chain). x.room) c.self.view_is
