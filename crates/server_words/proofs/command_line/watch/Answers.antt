use Rattle.std.proofs.Common.{◌∙◌, ap, codes}
use Rattle.std.proofs.lemmas.Result.{IfOk-weaker}
use Rattle.clap.specs.Words.{App, Rule, with_rule}
use Rattle.server_words.specs.CommandLine.{log_rule, number_rule, option_between}
use Rattle.server_words.proofs.CommandLineLemmas.{added}
use Rattle.server_words.proofs.command_line.watch.Goals as goal

abbrev metrics : Rule
metrics = number_rule (codes "metrics") 1 65535

abbrev grace : Rule
grace = option_between (codes "grace") (codes "10") 0 86400

pub returns : goal.returns
returns c =
    let one = added _ _ _ log_rule c.in_ok-arg.ensures c.log.ensures.local c.log.ensures.rule in
    let two = added _ _ _ metrics c.in_ok-arg-2.ensures c.metrics.ensures.local c.metrics.ensures.rule ∙ ap (λ (a : App). with_rule a metrics) one in
    IfOk-weaker c.arg-3.result _ _ (λ r h. added _ _ r grace h c.grace.ensures.local c.grace.ensures.rule ∙ ap (λ (a : App). with_rule a grace) two) c.arg-3.ensures
