use Rattle.std.proofs.Common.{◌∙◌, ap, ap₂}
use Rattle.std.proofs.lemmas.Result.{IfOk-weaker}
use Rattle.clap.specs.Words.{App, with_rule}
use Rattle.server_words.specs.CommandLine.{journal_rule, moment_rule, tenant_rule, with_many_clients, with_service, with_sizes, with_watch}
use Rattle.server_words.proofs.CommandLineLemmas.{added}
use Rattle.server_words.proofs.command_line.serve.Goals as goal

pub returns : goal.returns
returns c =
    let service = c.in_ok-served.ensures ∙ ap with_service c.serve_alone.ensures in
    let many_clients = c.in_ok-with_clients.ensures ∙ ap₂ with_many_clients c.body_memory.ensures.rule service in
    let watch = c.in_ok-watch.ensures ∙ ap with_watch many_clients in
    let sets = added _ _ _ moment_rule c.in_ok-arg.ensures c.set_moment.ensures.local c.set_moment.ensures.rule ∙ ap (λ (a : App). with_rule a moment_rule) watch in
    let keeps = added _ _ _ journal_rule c.in_ok-command.ensures c.journal.ensures.local c.journal.ensures.rule ∙ ap (λ (a : App). with_rule a journal_rule) sets in
    let sizes = c.in_ok-sizes.ensures ∙ ap with_sizes keeps in
    IfOk-weaker c.arg-3.result _ _ (λ r h. added _ _ r tenant_rule h c.tenants.ensures.local c.tenants.ensures.rule ∙ ap (λ (a : App). with_rule a tenant_rule) sizes) c.arg-3.ensures
