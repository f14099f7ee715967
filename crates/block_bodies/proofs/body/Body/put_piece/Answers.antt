use Rattle.std.proofs.Common.{◌≡◌, ◌%◌, ◌<◌, length, ap, arith}
use Rattle.block_bodies.specs.Bodies.{Chain}
use Rattle.block_bodies.proofs.BlocksFor.{end_whole, end_partial, more_blocks}
use Rattle.block_bodies.proofs.body.Body.put_piece.Goals as goal

pub nonzero_rem-filled : goal.nonzero_rem-filled
nonzero_rem-filled c = rw (c.from.ensures, c.block_size.ensures.value) c.block_size.ensures.pool.limits.some_bytes

pub start_block-requires-clause-some : goal.start_block-requires-clause-some
start_block-requires-clause-some c = c.requires.some

pub start_block-requires-clause-body : goal.start_block-requires-clause-body
start_block-requires-clause-body c = c.requires.body

pub start_block-requires-clause-whole : goal.start_block-requires-clause-whole
start_block-requires-clause-whole c =
    let len = ap (λ (x : Chain). x.len) c.self.view_is in
    end_whole c.args.pool.now.block_size c.args.self.now.len (length c.args.self.now.blocks) c.block_size.ensures.pool.limits.some_bytes c.requires.body.blocks
    (rw (← c.block_size.ensures.value, ← c.from.ensures, ← len) (omega arith))

pub start_block-requires-clause-room : goal.start_block-requires-clause-room
start_block-requires-clause-room c =
    let len = ap (λ (x : Chain). x.len) c.self.view_is in
    let whole : c.args.self.now.len % c.args.pool.now.block_size ≡ 0 = rw (← c.block_size.ensures.value, ← c.from.ensures, ← len) (omega arith) in
    omega (arith, c.requires.room.listed, more_blocks c.args.pool.now.block_size c.args.self.now.len (length c.args.self.now.blocks) (length c.args.bytes.now) c.block_size.ensures.pool.limits.some_bytes c.requires.body.blocks whole c.requires.some)

pub start_block-requires-clause-free : goal.start_block-requires-clause-free
start_block-requires-clause-free c =
    let len = ap (λ (x : Chain). x.len) c.self.view_is in
    let whole : c.args.self.now.len % c.args.pool.now.block_size ≡ 0 = rw (← c.block_size.ensures.value, ← c.from.ensures, ← len) (omega arith) in
    omega (arith, c.requires.room.free, more_blocks c.args.pool.now.block_size c.args.self.now.len (length c.args.self.now.blocks) (length c.args.bytes.now) c.block_size.ensures.pool.limits.some_bytes c.requires.body.blocks whole c.requires.some)

pub fill_last-requires-clause-some : goal.fill_last-requires-clause-some
fill_last-requires-clause-some c = c.requires.some

pub fill_last-requires-clause-body : goal.fill_last-requires-clause-body
fill_last-requires-clause-body c = c.requires.body

pub fill_last-requires-clause-last : goal.fill_last-requires-clause-last
fill_last-requires-clause-last c = c.requires.last

pub fill_last-requires-clause-partial : goal.fill_last-requires-clause-partial
fill_last-requires-clause-partial c = omega arith

pub fill_last-requires-clause-within_block : goal.fill_last-requires-clause-within_block
fill_last-requires-clause-within_block c =
    rw (c.from.ensures, c.block_size.ensures.value) (omega (arith, c.block_size.ensures.pool.limits.some_bytes))

pub fill_last-requires-clause-end : goal.fill_last-requires-clause-end
fill_last-requires-clause-end c =
    let len = ap (λ (x : Chain). x.len) c.self.view_is in
    let partial : 0 < c.args.self.now.len % c.args.pool.now.block_size = rw (← c.block_size.ensures.value, ← c.from.ensures, ← len) (omega arith) in
    rw (c.from.ensures, c.block_size.ensures.value, len)
    (end_partial c.args.pool.now.block_size c.args.self.now.len (length c.args.self.now.blocks) c.block_size.ensures.pool.limits.some_bytes c.requires.body.blocks partial)
