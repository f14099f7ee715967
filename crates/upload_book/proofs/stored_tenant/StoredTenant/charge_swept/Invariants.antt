use Rattle.std.proofs.Common.{◌≡◌, ◌+◌}
use Rattle.upload_book.specs.inside.ChargeAfter.{cost_of, left_to}
use Rattle.upload_book.proofs.stored_tenant.StoredTenant.charge_swept.Given as goal

-- what the uploads before the place release was found
abbrev pub invariant-loop-place : goal.invariant-loop-place
invariant-loop-place l =
    l.released + cost_of l.size l.self.next (left_to l.ended.at l.self.uploads.items l.place) ≡ l.self.charge
