use Rattle.std.proofs.Common.{arith, rules, tests}
use Rattle.std.proofs.lemmas.Bool.Decides.{nat_tests}
use Rattle.std.proofs.lemmas.Iterator.{YieldsList-from_slice}
use Rattle.std.proofs.lemmas.Iterator.Search.{all_from_yields_List}
use Rattle.tus_text.specs.Tenant.{is_tenant_byte}
use Rattle.tus_text.proofs.tenant.is_tenant_name.Goals as goal

pub returns : goal.returns
returns c =
    let each = all_from_yields_List is_tenant_byte _ _ c.all.result c.all.ensures.ran (YieldsList-from_slice c.args.name.now cc) (λ x b q k. search (rules, tests)) in
    grind (arith, nat_tests)
