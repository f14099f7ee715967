use Rattle.std.proofs.Common.{sym, ap, ◌∙◌}
use Rattle.upload_book.specs.Upload.{head_row_of}
use Rattle.upload_book.proofs.Store.StoreLemmas.{IsPart-read, IsEntry-read, reads-entry, upload_at-read}
use Rattle.upload_book.proofs.block_store.BlockStore.head_row.Goals as goal

pub returns : goal.returns
returns c =
    let part = IsPart-read c.self.inside c.args.self.now c.args.tenant c.index.result.now c.self.view_is c.requires.tenant c.index.ensures in
    let entry = IsEntry-read c.self.inside c.args.self.now c.args.tenant c.args.place c.index.result.now c.index-2.result.now c.self.view_is part c.requires.place c.index-2.ensures in
    c.head_row.ensures c.self.inside.pool (reads-entry c.self.inside c.args.tenant c.args.place c.index.result.now c.index-2.result.now c.self.invariant part entry) ∙ ap head_row_of (sym (upload_at-read c.self.inside c.args.self.now c.args.tenant c.args.place c.index.result.now c.index-2.result.now c.self.view_is part entry))
