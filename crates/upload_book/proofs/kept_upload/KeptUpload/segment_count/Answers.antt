use Rattle.std.proofs.Common.{sym, ◌∙◌}
use Rattle.upload_book.specs.inside.Kept.{stored_tenant_of}
use Rattle.upload_book.proofs.Restoring.KeptUploads.{count-is, entry-read}
use Rattle.upload_book.proofs.kept_upload.KeptUpload.segment_count.Goals as goal

pub returns : goal.returns
returns c =
    let k = c.self.inside in
    let t = stored_tenant_of k.stored_tenant.now in
    let entry = entry-read t k.place c.index.result.now c.self.invariant.there c.index.ensures in
    rw (← c.self.view_is) (c.piece_count.ensures ∙ sym (count-is k.pool.now t k.place c.index.result.now entry c.self.invariant.own))
