use Rattle.std.proofs.Common.{◌+◌, ap, ◌∙◌}
use Rattle.block_pool.specs.Blocks.{free_in}
use Rattle.upload_book.specs.inside.Kept.{store_of}
use Rattle.upload_book.proofs.Charge.InUse.{blocks_in_use}
use Rattle.upload_book.proofs.Store.StoreLemmas.{charges-kept}
use Rattle.upload_book.proofs.block_store.BlockStore.free.Goals as goal

pub returns-clause-in_use : goal.returns-clause-in_use
returns-clause-in_use c =
    let v = c.self.inside in
    rw (← c.self.view_is) (ap (λ n. free_in v.pool + n) (charges-kept v c.self.invariant) ∙ blocks_in_use v.pool (store_of v).stored_tenants c.self.invariant.stored)
