use Rattle.std.proofs.Common.{sym, ◌∙◌}
use Rattle.upload_book.specs.BlockStore.{no_upload}
use Rattle.upload_book.specs.inside.Kept.{stored_tenant_of}
use Rattle.upload_book.proofs.Restoring.FinalFound.{part-at, part-none, reads-upload}
use Rattle.upload_book.proofs.stored_tenant.StoredTenant.may_be_part.Goals as goal

pub returns-in-Some : goal.returns-in-Some
returns-in-Some c p reads =
    let t = stored_tenant_of c.args.self.now in
    c.may_be_part.ensures p (reads-upload p t c.args.id c.in-Some.place c.index.result.now (sym c.place.ensures ∙ c.in-Some.is) c.index.ensures reads)
    ∙ sym (part-at p t c.args.id c.in-Some.place c.index.result.now (sym c.place.ensures ∙ c.in-Some.is) c.index.ensures)

pub returns-in-None : goal.returns-in-None
returns-in-None c p reads = sym (part-none p (stored_tenant_of c.args.self.now) c.args.id no_upload (sym c.place.ensures ∙ c.in-None.is))
