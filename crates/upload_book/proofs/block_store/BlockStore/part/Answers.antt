use Rattle.upload_book.proofs.Store.StoreLemmas.{order-part, IsPart-read}
use Rattle.upload_book.proofs.block_store.BlockStore.part.Goals as goal

pub part-requires : goal.part-requires
part-requires c =
    (order-part c.self.inside c.args.tenant c.index.result.now c.self.invariant (IsPart-read c.self.inside c.args.self.now c.args.tenant c.index.result.now c.self.view_is c.requires c.index.ensures)).ids
