use Rattle.std.proofs.Common.{◌∙◌, ap}
use Rattle.std.proofs.lemmas.Result.{IfOk-weaker}
use Rattle.clap.specs.Words.{App, with_rule}
use Rattle.server_words.specs.CommandLine.{journal_rule, tenant_rule, with_run_sizes, with_watch}
use Rattle.server_words.proofs.CommandLineLemmas.{added}
use Rattle.server_words.proofs.command_line.run.Goals as goal

pub returns : goal.returns
returns c =
    let watch = c.in_ok-command.ensures ∙ ap with_watch c.in_ok-run_with_clients.ensures in
    let keeps = added _ _ _ journal_rule c.in_ok-arg.ensures c.journal.ensures.local c.journal.ensures.rule ∙ ap (λ (a : App). with_rule a journal_rule) watch in
    let sizes = c.in_ok-run_sizes.ensures ∙ ap with_run_sizes keeps in
    IfOk-weaker c.arg-2.result _ _ (λ r h. added _ _ r tenant_rule h c.tenants.ensures.local c.tenants.ensures.rule ∙ ap (λ (a : App). with_rule a tenant_rule) sizes) c.arg-2.ensures
