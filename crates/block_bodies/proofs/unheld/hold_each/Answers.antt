use Rattle.std.proofs.Common.{◌<◌, List, ℕ, length, subst, arith}
use Rattle.std.proofs.lemmas.List.{get_or_read, take_all}
use Rattle.block_bodies.specs.Changes.{Holds}
use Rattle.block_bodies.proofs.EachBlock.{hold-fits, Holds-more, Holds-none}
use Rattle.block_bodies.proofs.unheld.hold_each.Goals as goal

pub hold-requires-clause-fits : goal.hold-requires-clause-fits
hold-requires-clause-fits c =
    let l : c.loop-block.block-index < length c.args.blocks.now = omega arith in
    let item = get_or_read c.args.blocks.now c.loop-block.block-index c.block-item.result l c.block-item.is 0 in
    rw item (hold-fits c.args.pool.now c.args.blocks.now c.loop-block.pool c.loop-block.block-index c.requires c.loop-block.invariant l)

pub loop-block-init : goal.loop-block-init
loop-block-init c = Holds-none c.args.pool.now

pub loop-block-preserved : goal.loop-block-preserved
loop-block-preserved c =
    let l : c.loop-block.block-index < length c.args.blocks.now = omega arith in
    let item = get_or_read c.args.blocks.now c.loop-block.block-index c.block-item.result l c.block-item.is 0 in
    rw (c.hold.ensures, item) (Holds-more c.args.pool.now c.args.blocks.now c.loop-block.pool c.loop-block.block-index c.requires c.loop-block.invariant l)

pub returns : goal.returns
returns c =
    let P : List ℕ → Type 0 = λ list. Holds c.args.pool.now list c.loop-block.pool in
    subst P (take_all c.loop-block.block-index c.args.blocks.now (omega arith)) c.loop-block.invariant
