use Rattle.std.proofs.Common.{Some, subst, sym, ap, ◌∙◌}
use Rattle.upload_book.specs.inside.KeptUpload.{IsSegmentAt}
use Rattle.upload_book.proofs.kept_upload.KeptSegment.len.Goals as goal

pub returns-in-Some : goal.returns-in-Some
returns-in-Some c =
    let body = subst (IsSegmentAt c.self.inside.pool.now) c.in-Some.is c.self.invariant in
    rw (← c.self.view_is, c.in-Some.is) (ap Some (c.len.ensures.value ∙ sym body.1))
