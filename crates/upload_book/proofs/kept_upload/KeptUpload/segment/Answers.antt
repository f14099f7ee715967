use Rattle.std.proofs.Common.{◌≡◌, ◌<◌, length, ap, arith}
use Rattle.std.proofs.lemmas.List.{get_or_read}
use Rattle.upload_book.specs.inside.Kept.{stored_tenant_of}
use Rattle.upload_book.specs.Stored.{StoredUpload}
use Rattle.upload_book.specs.TenantBook.{Entry}
use Rattle.upload_book.proofs.Restoring.KeptUploads.{body-at, count-is, entry-read, segment-brings, segment-stands}
use Rattle.upload_book.proofs.kept_upload.KeptUpload.segment.Goals as goal
use Rattle.upload_book.proofs.kept_upload.KeptUpload.segment.Goals.{then-stands, else-stands}

pub origin-origin-requires : goal.origin-origin-requires
origin-origin-requires c =
    let k = c.self.inside in
    let t = stored_tenant_of k.stored_tenant.now in
    let e = c.index-upload.result.now in
    let entry = entry-read t k.place e c.self.invariant.there c.index-upload.ensures in
    let many : length c.args.self.now.segments ≡ length e.kept.pieces = rw (← c.self.view_is) (count-is k.pool.now t k.place e entry c.self.invariant.own) in
    omega (arith, c.requires, many)

pub stands_before-stands-requires-clause-pieces : goal.stands_before-stands-requires-clause-pieces
stands_before-stands-requires-clause-pieces c = λ d.
    let k = c.self.inside in
    let t = stored_tenant_of k.stored_tenant.now in
    let e = c.index-upload.result.now in
    let entry = entry-read t k.place e c.self.invariant.there c.index-upload.ensures in
    let many : length c.args.self.now.segments ≡ length e.kept.pieces = rw (← c.self.view_is) (count-is k.pool.now t k.place e entry c.self.invariant.own) in
    omega (arith, c.requires, many, ap (λ (e : Entry StoredUpload). length e.kept.pieces) (get_or_read t.uploads k.place e entry.within entry.read d))

pub chain-requires : goal.chain-requires
chain-requires c =
    let k = c.self.inside in
    let t = stored_tenant_of k.stored_tenant.now in
    let e = c.index-upload.result.now in
    let entry = entry-read t k.place e c.self.invariant.there c.index-upload.ensures in
    let many : length c.args.self.now.segments ≡ length e.kept.pieces = rw (← c.self.view_is) (count-is k.pool.now t k.place e entry c.self.invariant.own) in
    omega (arith, c.requires, many)

pub invariant_of-result : goal.invariant_of-result
invariant_of-result c =
    let k = c.self.inside in
    let t = stored_tenant_of k.stored_tenant.now in
    let e = c.index-upload.result.now in
    let entry = entry-read t k.place e c.self.invariant.there c.index-upload.ensures in
    let many : length c.args.self.now.segments ≡ length e.kept.pieces = rw (← c.self.view_is) (count-is k.pool.now t k.place e entry c.self.invariant.own) in
    let within : c.args.place < length e.kept.pieces = omega (arith, c.requires, many) in
    elim c.if-stands.branch [
      | then-stands w ↦ rw w.result-is tt
      | else-stands w ↦ rw w.result-is (body-at k.pool.now t k.place e c.args.place w.chain.result.now entry c.self.invariant.bodies c.self.invariant.reads within w.chain.ensures)
    ]

pub returns : goal.returns
returns c = λ d.
    let k = c.self.inside in
    let t = stored_tenant_of k.stored_tenant.now in
    let e = c.index-upload.result.now in
    let entry = entry-read t k.place e c.self.invariant.there c.index-upload.ensures in
    let many : length c.args.self.now.segments ≡ length e.kept.pieces = rw (← c.self.view_is) (count-is k.pool.now t k.place e entry c.self.invariant.own) in
    let within : c.args.place < length e.kept.pieces = omega (arith, c.requires, many) in
    let origin = c.origin-origin.result in
    let stands = c.stands_before-stands.result in
    elim c.if-stands.branch [
      | then-stands w ↦ rw (w.result-is, ← c.self.view_is) (segment-stands k.pool.now t k.place e c.args.place origin stands d entry c.self.invariant.own within c.origin-origin.ensures c.stands_before-stands.ensures w.if-stands.true)
      | else-stands w ↦ rw (w.result-is, ← c.self.view_is) (segment-brings k.pool.now t k.place e c.args.place origin w.chain.result.now stands d entry c.self.invariant.own within c.origin-origin.ensures w.chain.ensures c.stands_before-stands.ensures w.if-stands.false)
    ]
