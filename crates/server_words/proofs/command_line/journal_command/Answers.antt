use Rattle.std.proofs.Common.{◌≡◌, ◌∙◌, ap, ap₂}
use Rattle.std.proofs.lemmas.Result.{IfOk-weaker}
use Rattle.clap.specs.Words.{App, app_of, with_subcommand}
use Rattle.server_words.specs.CommandLine.{check_command, export_command}
use Rattle.server_words.proofs.CommandLineLemmas.{third}
use Rattle.server_words.proofs.command_line.journal_command.Goals as goal

pub returns : goal.returns
returns c =
    let check : app_of c.in_ok-check.field-0 ≡ check_command = c.in_ok-check.ensures in
    let export : app_of c.in_ok-export.field-0 ≡ export_command = c.in_ok-export.ensures in
    let checks = c.in_ok-subcommand.ensures.shape (third _ _ _ _ (ap (λ (a : App). a.top.is_plain) check)) ∙ ap₂ with_subcommand c.in_ok-command.ensures (ap (λ (a : App). a.top) check) in
    IfOk-weaker c.subcommand-2.result _ _ (λ r h. h.shape (third _ _ _ _ (ap (λ (a : App). a.top.is_plain) export)) ∙ ap₂ with_subcommand checks (ap (λ (a : App). a.top) export)) c.subcommand-2.ensures
