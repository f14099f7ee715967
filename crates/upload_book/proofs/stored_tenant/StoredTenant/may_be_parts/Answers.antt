use Rattle.std.proofs.Common.{◌≡◌, Bool, true, ◌&&◌, ◌+◌, drop, sym, ap, ◌∙◌}
use Rattle.std.proofs.lemmas.List.{drop_all}
use Rattle.std.specs.List.{list_all}
use Rattle.upload_book.specs.inside.Kept.{stored_tenant_of}
use Rattle.upload_book.specs.snapshot.Restore.{may_be_part}
use Rattle.upload_book.specs.snapshot.Restored.{RestoredSegment}
use Rattle.upload_book.specs.Stored.{part_of}
use Rattle.upload_book.proofs.Restoring.FinalFound.{all-at}
use Rattle.upload_book.proofs.stored_tenant.StoredTenant.may_be_parts.Goals as goal

pub loop-place-preserved : goal.loop-place-preserved
loop-place-preserved c p reads =
    let part = part_of p (stored_tenant_of c.args.self.now) in
    let s : RestoredSegment = c.index-segments-place.result in
    let test : RestoredSegment → Bool = λ (s : RestoredSegment). may_be_part part s.origin in
    let passes : test s ≡ true = ap (may_be_part part) (sym (ap (λ (s : RestoredSegment). s.origin) c.segment.view_is)) ∙ sym (c.may_be_part.ensures p reads) ∙ c.if-not-may_be_part.false in
    sym (all-at test c.args.segments.now c.loop-place.place s c.loop-place-test.true c.index-segments-place.is ∙ ap (λ (b : Bool). b && list_all test (drop (c.loop-place.place + 1) c.args.segments.now)) passes) ∙ c.loop-place.invariant p reads

pub returns : goal.returns
returns c p reads =
    let test : RestoredSegment → Bool = λ (s : RestoredSegment). may_be_part (part_of p (stored_tenant_of c.args.self.now)) s.origin in
    ap (list_all test) (sym (drop_all c.loop-place.place c.args.segments.now c.loop-place-test.false)) ∙ c.loop-place.invariant p reads
