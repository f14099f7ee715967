use Rattle.std.proofs.Common.{◌≡◌, ◌∙◌, ap, ap₂, codes}
use Rattle.std.proofs.lemmas.Result.{IfOk-weaker}
use Rattle.clap.specs.Words.{App, app_of, new_app, with_subcommand}
use Rattle.server_words.specs.CommandLine.{run_command, serve_command, talk_command}
use Rattle.server_words.proofs.CommandLineLemmas.{third}
use Rattle.server_words.proofs.command_line.command.Goals as goal

pub returns : goal.returns
returns c =
    let run : app_of c.in_ok-run.field-0 ≡ run_command = c.in_ok-run.ensures in
    let talk : app_of c.in_ok-talk.field-0 ≡ talk_command = c.in_ok-talk.ensures in
    let serve : app_of c.in_ok-serve.field-0 ≡ serve_command = c.in_ok-serve.ensures in
    let journal : app_of c.journal_named.result ≡ new_app (codes "journal") = c.journal_named.ensures in
    let runs = c.in_ok-subcommand.ensures.shape (third _ _ _ _ (ap (λ (a : App). a.top.is_plain) run)) ∙ ap₂ with_subcommand c.in_ok-command.ensures (ap (λ (a : App). a.top) run) in
    let talks = c.in_ok-subcommand-2.ensures.shape (third _ _ _ _ (ap (λ (a : App). a.top.is_plain) talk)) ∙ ap₂ with_subcommand runs (ap (λ (a : App). a.top) talk) in
    let serves = c.in_ok-subcommand-3.ensures.shape (third _ _ _ _ (ap (λ (a : App). a.top.is_plain) serve)) ∙ ap₂ with_subcommand talks (ap (λ (a : App). a.top) serve) in
    IfOk-weaker c.subcommand-4.result _ _ (λ r h. h.shape (third _ _ _ _ (ap (λ (a : App). a.top.is_plain) journal)) ∙ ap₂ with_subcommand serves (ap (λ (a : App). a.top) journal)) c.subcommand-4.ensures
