use Rattle.std.proofs.Common.{sym, ap, ◌∙◌}
use Rattle.upload_book.specs.Progress.{progress_in}
use Rattle.upload_book.specs.Upload.{head_row_of}
use Rattle.upload_book.proofs.Store.StoreLemmas.{IsPart-read, IsEntry-read, reads-entry, upload_at-read}
use Rattle.upload_book.proofs.block_store.BlockStore.progress.Goals as goal

pub returns : goal.returns
returns c =
    let part = IsPart-read c.self.inside c.args.self.now c.args.tenant c.index.result.now c.self.view_is c.requires.tenant c.index.ensures in
    let entry = IsEntry-read c.self.inside c.args.self.now c.args.tenant c.args.place c.index.result.now c.index-2.result.now c.self.view_is part c.requires.place c.index-2.ensures in
    c.progress.ensures c.self.inside.pool (reads-entry c.self.inside c.args.tenant c.args.place c.index.result.now c.index-2.result.now c.self.invariant part entry) ∙ ap (λ u. progress_in (head_row_of u)) (sym (upload_at-read c.self.inside c.args.self.now c.args.tenant c.args.place c.index.result.now c.index-2.result.now c.self.view_is part entry))
