use Rattle.tus_steps.specs.Asked.{CanBeAsked}
use Rattle.tus_steps.proofs.StepLemmas.{IfOk-ok_or}
use Rattle.tus_steps.proofs.request.Request.asked_at.Goals as goal

pub returns-in-Create-Post-clause-ready : goal.returns-in-Create-Post-clause-ready
returns-in-Create-Post-clause-ready c tenants there =
    rw c.ok_or.ensures.value (IfOk-ok_or c.creation.result _ (CanBeAsked tenants) (c.creation.ensures.ready tenants there))
