use Rattle.std.proofs.Common.{◌∙◌, ap, codes, refl}
use Rattle.std.proofs.lemmas.Result.{IfOk-weaker}
use Rattle.clap.specs.Words.{App, Rule, rule_of, with_rule}
use Rattle.server_words.specs.CommandLine.{number_rule, option_between, pieces_rule}
use Rattle.server_words.proofs.CommandLineLemmas.{added}
use Rattle.server_words.proofs.command_line.many_clients.Goals as goal

abbrev at_once : Rule
at_once = number_rule (codes "at-once") 1 16384

abbrev message_seconds : Rule
message_seconds = option_between (codes "message-seconds") (codes "0") 0 86400

abbrev least_rate : Rule
least_rate = option_between (codes "least-rate") (codes "0") 0 1073741824

abbrev max_body : Rule
max_body = number_rule (codes "max-body") 1 16777216

pub returns : goal.returns
returns c =
    let one = added _ _ _ at_once c.in_ok-arg.ensures c.at_once.ensures.local c.at_once.ensures.rule in
    let two = added _ _ _ message_seconds c.in_ok-arg-2.ensures c.message_seconds.ensures.local c.message_seconds.ensures.rule ∙ ap (λ (a : App). with_rule a message_seconds) one in
    let three = added _ _ _ least_rate c.in_ok-arg-3.ensures c.least_rate.ensures.local c.least_rate.ensures.rule ∙ ap (λ (a : App). with_rule a least_rate) two in
    let body_memory = rule_of c.args.body_memory in
    let four = added _ _ _ body_memory c.in_ok-arg-4.ensures c.requires refl ∙ ap (λ (a : App). with_rule a body_memory) three in
    let five = added _ _ _ pieces_rule c.in_ok-arg-5.ensures c.pieces.ensures.local c.pieces.ensures.rule ∙ ap (λ (a : App). with_rule a pieces_rule) four in
    IfOk-weaker c.arg-6.result _ _ (λ r h. added _ _ r max_body h c.max_body.ensures.local c.max_body.ensures.rule ∙ ap (λ (a : App). with_rule a max_body) five) c.arg-6.ensures
