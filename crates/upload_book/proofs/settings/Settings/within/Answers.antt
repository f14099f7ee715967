use Rattle.std.proofs.Common.{ap, sym, ◌∙◌, arith}
use Rattle.std.proofs.lemmas.List.{take_all}
use Rattle.upload_book.specs.Refusal.{first_that_holds}
use Rattle.upload_book.specs.Settings.{number_tests, tenant_tests, tenants_of}
use Rattle.upload_book.proofs.Lawful.FirstRefusal.{first-of-others}
use Rattle.upload_book.proofs.Lawful.SettingsLemmas.{sound-within}
use Rattle.upload_book.proofs.Lawful.TenantLists.{names_fit}
use Rattle.upload_book.proofs.settings.Settings.within.Goals as goal

pub of-requires : goal.of-requires
of-requires c =
    (omega arith, names_fit c.args.numbers.blocks c.args.tenants.now (sym c.tenant_fault.ensures ∙ c.in_default-tenant_fault.is) c.loop-name.name-index _ c.loop-name-test.true)

-- neither the numbers nor the tenants have a fault
pub invariant_of-result : goal.invariant_of-result
invariant_of-result c =
    let numbers = number_tests c.args.bounds c.args.numbers in
    let kept = c.loop-name.invariant ∙ ap tenants_of (take_all c.loop-name.name-index c.args.tenants.now c.loop-name-test.false) in
    let tenants = ap (λ tenants. first_that_holds (tenant_tests c.args.numbers.blocks tenants)) kept ∙ sym c.tenant_fault.ensures ∙ c.in_default-tenant_fault.is in
    sound-within c.args.bounds (record { numbers = c.args.numbers; tenants = c.loop-name.kept.items })
    (first-of-others numbers (tenant_tests c.args.numbers.blocks c.loop-name.kept.items) (sym c.number_fault.ensures ∙ c.in_default.is) ∙ tenants)
