use Rattle.std.proofs.Common.{◌≡◌, ◌-◌, ℕ, List, ◌++◌, drop, length, min, take, ap, ◌∙◌, arith}
use Rattle.std.proofs.lemmas.Grind.{common_steps}
use Rattle.upload_book.specs.Upload.{content_of as upload_content_of}
use Rattle.upload_book.specs.Stored.{upload_of}
use Rattle.upload_book.proofs.Store.OwnLemmas.{offset-whole, span-len, span-rest}
use Rattle.upload_book.proofs.stored_upload.StoredUpload.read.Goals as goal

pub returns-clause-bytes : goal.returns-clause-bytes
returns-clause-bytes c =
    let content : List ℕ = upload_content_of (upload_of c.args.pool.now c.args.self.now.kept) in
    let whole = offset-whole c.args.pool.now c.args.self.now.kept c.requires.whole in
    let done : c.len-done.result ≡ length c.args.begun.items = omega (arith, c.len-done.ensures, c.args.begun.ok.0) in
    let within : length c.args.begun.items ≡ min (length c.args.begun.items) (length content - c.args.span.first) = ap (λ (bytes : List ℕ). length bytes) c.requires.begun ∙ span-len content c.args.span.first (length c.args.begun.items) in
    c.read_onto.ensures.items ∙ ap (λ (bytes : List ℕ). bytes ++ take c.saturating_sub-left.result (drop c.saturating_add-offset.result content)) c.reserve_exact.ensures.items
    ∙ span-rest content c.args.begun.items c.args.span.first c.args.span.count c.len-done.result c.saturating_sub-left.result c.saturating_add-offset.result
    c.requires.begun c.requires.few done
    (omega (arith, c.saturating_sub-left.ensures, c.offset.ensures, whole))
    (omega (arith, c.saturating_add-offset.ensures, c.offset.ensures, whole, within, done))

pub returns-in_err-reserve_exact-clause-lacking : goal.returns-in_err-reserve_exact-clause-lacking
returns-in_err-reserve_exact-clause-lacking c =
    let content : List ℕ = upload_content_of (upload_of c.args.pool.now c.args.self.now.kept) in
    let whole = offset-whole c.args.pool.now c.args.self.now.kept c.requires.whole in
    let len = span-len content c.args.span.first c.args.span.count in
    grind (arith, common_steps, whole, len)
