use Rattle.std.proofs.Common.{ℕ, ◌<◌, length, sym, ◌∙◌}
use Rattle.tus_steps.proofs.StepLemmas.{found-ok_or}
use Rattle.tus_steps.proofs.request.Request.asked.Goals as goal

pub returns-clause-ready : goal.returns-clause-ready
returns-clause-ready c =
    let tenants = length c.args.settings.now.tenants in
    let there = found-ok_or c.tenant.result _ (λ (t : ℕ). t < tenants) c.in_ok-tenant.tenant c.tenant.ensures.there (sym c.ok_or-2.ensures.value ∙ c.in_ok-tenant.was) in
    c.asked_at.ensures.ready tenants there
