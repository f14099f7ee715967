use Rattle.std.proofs.Common.{◌≡◌, ◌<◌, drop, length, take, sym, subst, vec_capacity}
use Rattle.std.specs.Result.{IfOk, OnErr}
use Rattle.upload_book.specs.Content.{bytes_at}
use Rattle.upload_book.specs.Upload.{Upload, content_of}
use Rattle.upload_book.proofs.Store.StoreLemmas.{IsPart-read, IsEntry-read, bodies-entry, reads-entry, upload_at-read}
use Rattle.upload_book.proofs.block_store.BlockStore.read.Goals as goal

pub read-requires-clause-bodies : goal.read-requires-clause-bodies
read-requires-clause-bodies c =
    let part = IsPart-read c.self.inside c.args.self.now c.args.tenant c.index.result.now c.self.view_is c.requires.tenant c.index.ensures in
    let entry = IsEntry-read c.self.inside c.args.self.now c.args.tenant c.args.place c.index.result.now c.index-2.result.now c.self.view_is part c.requires.place c.index-2.ensures in
    bodies-entry c.self.inside c.args.tenant c.args.place c.index.result.now c.index-2.result.now c.self.invariant part entry

pub read-requires-clause-whole : goal.read-requires-clause-whole
read-requires-clause-whole c =
    let part = IsPart-read c.self.inside c.args.self.now c.args.tenant c.index.result.now c.self.view_is c.requires.tenant c.index.ensures in
    let entry = IsEntry-read c.self.inside c.args.self.now c.args.tenant c.args.place c.index.result.now c.index-2.result.now c.self.view_is part c.requires.place c.index-2.ensures in
    reads-entry c.self.inside c.args.tenant c.args.place c.index.result.now c.index-2.result.now c.self.invariant part entry

pub read-requires-clause-begun : goal.read-requires-clause-begun
read-requires-clause-begun c =
    let part = IsPart-read c.self.inside c.args.self.now c.args.tenant c.index.result.now c.self.view_is c.requires.tenant c.index.ensures in
    let entry = IsEntry-read c.self.inside c.args.self.now c.args.tenant c.args.place c.index.result.now c.index-2.result.now c.self.view_is part c.requires.place c.index-2.ensures in
    let P : Upload → Type 0 = λ u. c.args.begun.items ≡ take (length c.args.begun.items) (drop c.args.span.first (content_of u)) in
    subst P (upload_at-read c.self.inside c.args.self.now c.args.tenant c.args.place c.index.result.now c.index-2.result.now c.self.view_is part entry) c.requires.begun

pub returns-clause-lacking : goal.returns-clause-lacking
returns-clause-lacking c =
    let part = IsPart-read c.self.inside c.args.self.now c.args.tenant c.index.result.now c.self.view_is c.requires.tenant c.index.ensures in
    let entry = IsEntry-read c.self.inside c.args.self.now c.args.tenant c.args.place c.index.result.now c.index-2.result.now c.self.view_is part c.requires.place c.index-2.ensures in
    let P : Upload → Type 0 = λ u. OnErr c.read.result (vec_capacity c.args.begun < length (bytes_at c.args.span (content_of u))) in
    subst P (sym (upload_at-read c.self.inside c.args.self.now c.args.tenant c.args.place c.index.result.now c.index-2.result.now c.self.view_is part entry)) c.read.ensures.lacking

pub returns-clause-bytes : goal.returns-clause-bytes
returns-clause-bytes c =
    let part = IsPart-read c.self.inside c.args.self.now c.args.tenant c.index.result.now c.self.view_is c.requires.tenant c.index.ensures in
    let entry = IsEntry-read c.self.inside c.args.self.now c.args.tenant c.args.place c.index.result.now c.index-2.result.now c.self.view_is part c.requires.place c.index-2.ensures in
    let P : Upload → Type 0 = λ u. IfOk c.read.result (λ v. v.items ≡ bytes_at c.args.span (content_of u)) in
    subst P (sym (upload_at-read c.self.inside c.args.self.now c.args.tenant c.args.place c.index.result.now c.index-2.result.now c.self.view_is part entry)) c.read.ensures.bytes
