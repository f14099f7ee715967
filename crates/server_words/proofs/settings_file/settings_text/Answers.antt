use Rattle.std.proofs.Common.{◌∙◌, List, ℕ, ◌++◌, ap, arith, map}
use Rattle.std.proofs.lemmas.List.{take_all}
use Rattle.upload_book.specs.declared.settings.TenantQuota.{TenantQuota}
use Rattle.server_words.specs.SettingsFile.{lines, number_words, tenant_word}
use Rattle.server_words.proofs.SettingsFileLemmas.{text-more}
use Rattle.server_words.proofs.settings_file.settings_text.Goals as goal

pub loop-place-preserved : goal.loop-place-preserved
loop-place-preserved c =
    text-more (number_words c.args.settings.now.numbers) c.args.settings.now.tenants c.loop-place.place c.name_at.result.now c.quota.result c.loop-place.text.items
    c.push_tenant.new.text.items c.name_at.ensures c.quota.ensures c.loop-place.invariant c.in_ok-push_tenant.ensures

pub returns : goal.returns
returns c =
    c.loop-place.invariant
    ∙ ap (λ (tenants : List TenantQuota). lines (number_words c.args.settings.now.numbers ++ map {A = TenantQuota} {B = List ℕ} tenant_word tenants))
    (take_all c.loop-place.place c.args.settings.now.tenants (omega arith))
