use Rattle.std.proofs.Common.{◌∙◌, ap, codes}
use Rattle.std.proofs.lemmas.Result.{IfOk-weaker}
use Rattle.clap.specs.Words.{App, with_rule}
use Rattle.server_words.specs.CommandLine.{word_rule}
use Rattle.server_words.proofs.CommandLineLemmas.{added}
use Rattle.server_words.proofs.command_line.check.Goals as goal

pub returns : goal.returns
returns c =
    let rule = word_rule (codes "folder") in
    IfOk-weaker c.arg.result _ _ (λ r h. added _ _ r rule h c.folder.ensures.local c.folder.ensures.rule ∙ ap (λ (a : App). with_rule a rule) c.check_alone.ensures) c.arg.ensures
