use Rattle.std.proofs.Common.{◌<◌, ◌-◌, List, ℕ, length, subst, arith}
use Rattle.std.proofs.lemmas.List.{get_or_read, take_all}
use Rattle.block_pool.specs.Blocks.{free_in}
use Rattle.block_bodies.specs.Changes.{GivesBack}
use Rattle.block_bodies.proofs.EachBlock.{release-held, GivesBack-more, GivesBack-none}
use Rattle.block_bodies.proofs.body.release_each.Goals as goal

pub release-requires : goal.release-requires
release-requires c =
    let l : c.loop-block.block-index < length c.args.blocks.now = omega arith in
    let item = get_or_read c.args.blocks.now c.loop-block.block-index c.block-item.result l c.block-item.is 0 in
    rw item (release-held c.args.pool.now c.args.blocks.now c.loop-block.pool _ c.loop-block.block-index c.requires c.loop-block.invariant l)

pub loop-block-init : goal.loop-block-init
loop-block-init c = GivesBack-none c.args.pool.now

pub loop-block-preserved : goal.loop-block-preserved
loop-block-preserved c =
    let l : c.loop-block.block-index < length c.args.blocks.now = omega arith in
    let item = get_or_read c.args.blocks.now c.loop-block.block-index c.block-item.result l c.block-item.is 0 in
    rw (c.release.ensures.after, item) (GivesBack-more c.args.pool.now c.args.blocks.now c.loop-block.pool _ c.loop-block.block-index c.requires c.loop-block.invariant l)

pub returns : goal.returns
returns c =
    let P : List ℕ → Type 0 = λ list. GivesBack c.args.pool.now list (free_in c.loop-block.pool - free_in c.args.pool.now) c.loop-block.pool in
    subst P (take_all c.loop-block.block-index c.args.blocks.now (omega arith)) c.loop-block.invariant
