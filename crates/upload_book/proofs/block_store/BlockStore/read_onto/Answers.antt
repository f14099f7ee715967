use Rattle.std.proofs.Common.{◌++◌, drop, take, sym, ap, ◌∙◌}
use Rattle.upload_book.specs.Upload.{content_of}
use Rattle.upload_book.proofs.Store.StoreLemmas.{IsPart-read, IsEntry-read, bodies-entry, reads-entry, upload_at-read}
use Rattle.upload_book.proofs.block_store.BlockStore.read_onto.Goals as goal

pub read_onto-requires-clause-bodies : goal.read_onto-requires-clause-bodies
read_onto-requires-clause-bodies c =
    let part = IsPart-read c.self.inside c.args.self.now c.args.tenant c.index.result.now c.self.view_is c.requires.tenant c.index.ensures in
    let entry = IsEntry-read c.self.inside c.args.self.now c.args.tenant c.args.place c.index.result.now c.index-upload.result.now c.self.view_is part c.requires.place c.index-upload.ensures in
    bodies-entry c.self.inside c.args.tenant c.args.place c.index.result.now c.index-upload.result.now c.self.invariant part entry

pub read_onto-requires-clause-whole : goal.read_onto-requires-clause-whole
read_onto-requires-clause-whole c =
    let part = IsPart-read c.self.inside c.args.self.now c.args.tenant c.index.result.now c.self.view_is c.requires.tenant c.index.ensures in
    let entry = IsEntry-read c.self.inside c.args.self.now c.args.tenant c.args.place c.index.result.now c.index-upload.result.now c.self.view_is part c.requires.place c.index-upload.ensures in
    reads-entry c.self.inside c.args.tenant c.args.place c.index.result.now c.index-upload.result.now c.self.invariant part entry

pub returns-clause-items : goal.returns-clause-items
returns-clause-items c =
    let part = IsPart-read c.self.inside c.args.self.now c.args.tenant c.index.result.now c.self.view_is c.requires.tenant c.index.ensures in
    let entry = IsEntry-read c.self.inside c.args.self.now c.args.tenant c.args.place c.index.result.now c.index-upload.result.now c.self.view_is part c.requires.place c.index-upload.ensures in
    c.read_onto.ensures.items
    ∙ ap (λ u. c.args.bytes.now.items ++ take c.args.count (drop c.args.offset (content_of u))) (sym (upload_at-read c.self.inside c.args.self.now c.args.tenant c.args.place c.index.result.now c.index-upload.result.now c.self.view_is part entry))
