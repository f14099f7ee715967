use Rattle.std.proofs.Common.{List, ℕ, option_map, sym, ap, ◌∙◌}
use Rattle.upload_book.specs.inside.FinalBack.{brought_in, left_with, sent_len}
use Rattle.upload_book.specs.inside.Kept.{stored_tenant_of}
use Rattle.upload_book.specs.snapshot.Restore.{sent_back}
use Rattle.upload_book.specs.Stored.{pieces_of}
use Rattle.upload_book.proofs.Restoring.FinalFound.{IsLeft-all, IsLeft-lacks, IsLeft-more, sent-pieces, sent_pieces}
use Rattle.upload_book.proofs.stored_tenant.StoredTenant.left.Goals as goal

pub returns-in_err-len : goal.returns-in_err-len
returns-in_err-len c p own reads =
    let t = stored_tenant_of c.args.self.now in
    let absent = IsLeft-lacks p (pieces_of t) c.args.segments.now c.loop-place.place c.index-segments-place.result c.args.limits c.loop-place.left c.args.size reads (c.loop-place-test.true) c.index-segments-place.is (sym c.segment_len.ensures ∙ c.in_err-len.was) (c.loop-place.invariant p own reads) in
    c.from_residual.ensures ∙ sym (ap (λ (standing : List (ℕ × List ℕ)). option_map (λ (sent : List (ℕ × List ℕ)). left_with c.args.limits (sent_len sent) (brought_in c.args.size c.args.segments.now)) (sent_back standing c.args.segments.now)) (sent-pieces p t.uploads own) ∙ ap (option_map (λ (sent : List (ℕ × List ℕ)). left_with c.args.limits (sent_len sent) (brought_in c.args.size c.args.segments.now))) absent)

pub loop-place-preserved : goal.loop-place-preserved
loop-place-preserved c p own reads =
    let t = stored_tenant_of c.args.self.now in
    rw c.with-left.ensures (IsLeft-more p (pieces_of t) c.args.segments.now c.loop-place.place c.in_ok-len.len c.blocks-in-loop-place.result c.index-segments-place.result c.args.limits c.loop-place.left c.args.size reads c.loop-place-test.true c.index-segments-place.is (sym c.segment_len.ensures ∙ c.in_ok-len.was) c.blocks-in-loop-place.ensures (c.loop-place.invariant p own reads))

pub returns : goal.returns
returns c p own reads =
    let t = stored_tenant_of c.args.self.now in
    IsLeft-all (sent_pieces p (pieces_of t)) c.args.segments.now c.loop-place.place c.args.limits c.args.size c.loop-place.left c.loop-place-test.false (c.loop-place.invariant p own reads)
    ∙ ap (λ (standing : List (ℕ × List ℕ)). option_map (λ (sent : List (ℕ × List ℕ)). left_with c.args.limits (sent_len sent) (brought_in c.args.size c.args.segments.now)) (sent_back standing c.args.segments.now)) (sym (sent-pieces p t.uploads own))
