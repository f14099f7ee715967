use Rattle.std.proofs.Common.{◌∙◌, ap, codes}
use Rattle.std.proofs.lemmas.Result.{IfOk-weaker}
use Rattle.clap.specs.Words.{App, Rule, with_rule}
use Rattle.server_words.specs.CommandLine.{option_between, text_rule}
use Rattle.server_words.proofs.CommandLineLemmas.{added}
use Rattle.server_words.proofs.command_line.run_service.Goals as goal

abbrev address : Rule
address = text_rule (codes "address") (codes "127.0.0.1")

abbrev port : Rule
port = option_between (codes "port") (codes "8080") 0 65535

abbrev workers : Rule
workers = option_between (codes "workers") (codes "2") 1 16

abbrev idle : Rule
idle = option_between (codes "idle") (codes "60") 0 86400

pub returns : goal.returns
returns c =
    let first = added _ _ _ address c.in_ok-arg.ensures c.address.ensures.local c.address.ensures.rule in
    let one = added _ _ _ port c.in_ok-arg-2.ensures c.port.ensures.local c.port.ensures.rule ∙ ap (λ (a : App). with_rule a port) first in
    let two = added _ _ _ workers c.in_ok-arg-3.ensures c.workers.ensures.local c.workers.ensures.rule ∙ ap (λ (a : App). with_rule a workers) one in
    IfOk-weaker c.arg-4.result _ _ (λ r h. added _ _ r idle h c.idle.ensures.local c.idle.ensures.rule ∙ ap (λ (a : App). with_rule a idle) two) c.arg-4.ensures
