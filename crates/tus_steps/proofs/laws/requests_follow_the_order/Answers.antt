use Rattle.std.proofs.Common.{refl}
use Rattle.upload_book.specs.Settings.{tenant_place}
use Rattle.tus_steps.specs.Operation.{has_version}
use Rattle.tus_steps.specs.Route.{route, tenant_name}
use Rattle.tus_steps.proofs.OrderLemmas.{first_missing}
use Rattle.tus_steps.proofs.laws.requests_follow_the_order.Goals as goal

pub returns : goal.returns
returns c = record {
  first = λ s r. first_missing (has_version r) (tenant_name r.path) (tenant_place s) (route r.path r.method) r;
  order = λ s r. refl;
}
