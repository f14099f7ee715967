use Rattle.std.proofs.Common.{◌<◌, length, ap, ◌∙◌, arith}
use Rattle.block_pool.specs.Blocks.{count_at}
use Rattle.block_pool.specs.FreeList.{counts_of_all}
use Rattle.block_pool.proofs.FreeLists.{stored-over}
use Rattle.block_pool.proofs.Stored.{shown, shown-size, taken-write, write-fits}
use Rattle.block_pool.proofs.pool.Pool.write.Goals as goal

pub write_over-requires : goal.write_over-requires
write_over-requires c =
    let size = shown-size c.self.inside.block_bytes _ c.self.inside.bytes.items c.args.self.now c.block_size.result c.self.view_is c.block_size.ensures.value in
    let held : 0 < count_at c.args.self.now c.args.block = omega (arith, c.requires.held_once) in
    rw (c.number.ensures.value, size)
    (omega (arith, write-fits c.self.inside.block_bytes c.self.inside.blocks c.self.inside.counts.items c.self.inside.bytes.items c.args.self.now c.self.view_is c.self.invariant.every_byte c.args.block c.args.at (length c.args.bytes.now) held c.requires.within))

pub invariant_of-self : goal.invariant_of-self
invariant_of-self c =
    let size = shown-size c.self.inside.block_bytes _ c.self.inside.bytes.items c.args.self.now c.block_size.result c.self.view_is c.block_size.ensures.value in
    let held : 0 < count_at c.args.self.now c.args.block = omega (arith, c.requires.held_once) in
    let fits = write-fits c.self.inside.block_bytes c.self.inside.blocks c.self.inside.counts.items c.self.inside.bytes.items c.args.self.now c.self.view_is c.self.invariant.every_byte c.args.block c.args.at (length c.args.bytes.now) held c.requires.within in
    rw (c.write_over.ensures.items, c.write_over.ensures.room, c.number.ensures.value, size)
    (stored-over c.self.inside.block_bytes c.self.inside.blocks c.self.inside.counts.items c.self.inside.bytes.items c.self.inside.free.items _ _ _ _ c.args.bytes.now c.self.invariant fits)

pub returns : goal.returns
returns c =
    let size = shown-size c.self.inside.block_bytes _ c.self.inside.bytes.items c.args.self.now c.block_size.result c.self.view_is c.block_size.ensures.value in
    ap (λ bytes. shown c.self.inside.block_bytes (counts_of_all c.self.inside.blocks c.self.inside.counts.items) bytes) c.write_over.ensures.items
    ∙ rw (c.number.ensures.value, size) (taken-write c.self.inside.block_bytes c.self.inside.blocks c.self.inside.counts.items c.self.inside.bytes.items c.args.self.now c.self.view_is c.self.invariant.every_byte c.args.block c.args.at c.args.bytes.now c.requires.held_once c.requires.within)
