use Rattle.std.proofs.Common.{arith}
use Rattle.upload_book.specs.Account.{blocks_between}
use Rattle.upload_book.proofs.Charge.PriceLemmas.{blocks_between-adds, blocks_for-zero}
use Rattle.upload_book.proofs.Store.StoreAppend.{free-read}
use Rattle.upload_book.proofs.block_store.BlockStore.body_for.Goals as goal

pub body_for-requires-clause-free : goal.body_for-requires-clause-free
body_for-requires-clause-free c =
    let v = c.self.inside in
    let free = free-read v (blocks_between v.pool.block_size 0 c.args.more) c.self.invariant (rw (← c.self.view_is) at c.requires.blocks) in
    omega (arith, free, blocks_between-adds v.pool.block_size 0 c.args.more, blocks_for-zero v.pool.block_size)
