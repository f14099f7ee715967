use Rattle.std.proofs.Common.{◌∙◌, ap, codes}
use Rattle.std.proofs.lemmas.Result.{IfOk-weaker}
use Rattle.clap.specs.Words.{App, with_rule}
use Rattle.server_words.specs.CommandLine.{word_rule}
use Rattle.server_words.proofs.CommandLineLemmas.{added}
use Rattle.server_words.proofs.command_line.export.Goals as goal

pub returns : goal.returns
returns c =
    let folder = word_rule (codes "folder") in
    let upload = word_rule (codes "upload") in
    let one = added _ _ _ folder c.in_ok-arg.ensures c.folder.ensures.local c.folder.ensures.rule ∙ ap (λ (a : App). with_rule a folder) c.export_alone.ensures in
    IfOk-weaker c.arg-2.result _ _ (λ r h. added _ _ r upload h c.upload.ensures.local c.upload.ensures.rule ∙ ap (λ (a : App). with_rule a upload) one) c.arg-2.ensures
