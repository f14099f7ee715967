use Rattle.tus_steps.proofs.LawsLemmas.{steps_see_one_tenant}
use Rattle.tus_steps.proofs.laws.steps_see_one_tenant.Goals as goal

pub returns : goal.returns
returns c = steps_see_one_tenant
