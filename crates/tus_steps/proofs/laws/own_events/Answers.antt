use Rattle.tus_steps.proofs.LawsLemmas.{own_events_stay}
use Rattle.tus_steps.proofs.laws.own_events.Goals as goal

pub returns : goal.returns
returns c = own_events_stay
