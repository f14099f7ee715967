use Rattle.std.proofs.Common.{◌≡◌, Some, ap, sym, arith}
use Rattle.upload_book.specs.inside.ChargeAfter.{cost_of, left_to}
use Rattle.upload_book.proofs.Charge.ChargeAfterLemmas.{left_to-end}
use Rattle.upload_book.proofs.stored_tenant.StoredTenant.charge_swept.Goals as goal

pub loop-place-init : goal.loop-place-init
loop-place-init c =
    let t = c.args.self.now in
    let is : cost_of c.args.size t.next (left_to (Some c.args.now) t.uploads.items 0) ≡ t.charge = sym c.requires.paid.charge in
    omega (arith, is)

pub loop-place-preserved : goal.loop-place-preserved
loop-place-preserved c = omega (arith, c.loop-place.invariant, c.released_at-released.ensures)

pub overflow_add-released : goal.overflow_add-released
overflow_add-released c = omega (arith, c.loop-place.invariant, c.released_at-released.ensures, c.requires.paid.fits)

pub overflow_sub-result : goal.overflow_sub-result
overflow_sub-result c = omega (arith, c.loop-place.invariant)

pub returns : goal.returns
returns c =
    let t = c.args.self.now in
    let at = ap (λ at. cost_of c.args.size t.next (left_to at t.uploads.items c.loop-place.place)) c.ended_at-ended.ensures.at in
    omega (arith, c.loop-place.invariant, at, ap (cost_of c.args.size t.next) (left_to-end (Some c.args.now) t.uploads.items c.loop-place.place (omega (arith, c.loop-place-test.false, c.len-place-end.ensures))))
