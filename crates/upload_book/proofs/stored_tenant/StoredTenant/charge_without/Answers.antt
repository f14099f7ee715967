use Rattle.std.proofs.Common.{◌≡◌, ◌+◌, ◌-◌, ◌≤◌, ℕ, ap, arith}
use Rattle.upload_book.specs.inside.ChargeAfter.{cost_of}
use Rattle.upload_book.proofs.Charge.ChargeAfterLemmas.{left_beside-none, left_to-none}
use Rattle.upload_book.proofs.stored_tenant.StoredTenant.charge_without.Goals as goal

-- what stays is what was paid without what is released
stays : (charge released after before all : ℕ) → charge ≡ all → before ≡ all → after + released ≡ before → (released ≤ charge) × (charge - released ≡ after)
stays charge released after before all paid same is = (omega arith, omega arith)

pub overflow_sub-result : goal.overflow_sub-result
overflow_sub-result c =
    let t = c.args.self.now in
    (stays t.charge c.released.result _ _ _ c.requires.paid.charge (ap (cost_of c.args.size t.next) (left_to-none t.uploads.items c.args.place)) c.released.ensures).0

pub returns : goal.returns
returns c =
    let t = c.args.self.now in
    omega (arith, (stays t.charge c.released.result _ _ _ c.requires.paid.charge (ap (cost_of c.args.size t.next) (left_to-none t.uploads.items c.args.place)) c.released.ensures).1, ap (cost_of c.args.size t.next) (left_beside-none t.uploads.items c.args.place))
