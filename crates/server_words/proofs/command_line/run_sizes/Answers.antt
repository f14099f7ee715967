use Rattle.std.proofs.Common.{◌∙◌, ap, codes}
use Rattle.std.proofs.lemmas.Result.{IfOk-weaker}
use Rattle.clap.specs.Words.{App, Rule, with_rule}
use Rattle.server_words.specs.CommandLine.{number_rule, option_rule}
use Rattle.server_words.proofs.CommandLineLemmas.{added}
use Rattle.server_words.proofs.command_line.run_sizes.Goals as goal

abbrev blocks : Rule
blocks = number_rule (codes "blocks") 0 18446744073709551615

abbrev block_size : Rule
block_size = option_rule (codes "block-size") (codes "4096") 18446744073709551615

abbrev lifetime : Rule
lifetime = option_rule (codes "lifetime") (codes "86400") 18446744073709551615

abbrev finished : Rule
finished = option_rule (codes "finished-lifetime") (codes "0") 18446744073709551615

abbrev max_size : Rule
max_size = number_rule (codes "max-size") 0 18446744073709551615

abbrev uploads : Rule
uploads = option_rule (codes "uploads") (codes "1024") 18446744073709551615

pub returns : goal.returns
returns c =
    let one = added _ _ _ blocks c.in_ok-arg.ensures c.run_blocks.ensures.local c.run_blocks.ensures.rule in
    let two = added _ _ _ block_size c.in_ok-arg-2.ensures c.run_block_size.ensures.local c.run_block_size.ensures.rule ∙ ap (λ (a : App). with_rule a block_size) one in
    let three = added _ _ _ lifetime c.in_ok-arg-3.ensures c.lifetime.ensures.local c.lifetime.ensures.rule ∙ ap (λ (a : App). with_rule a lifetime) two in
    let four = added _ _ _ finished c.in_ok-arg-4.ensures c.finished_lifetime.ensures.local c.finished_lifetime.ensures.rule ∙ ap (λ (a : App). with_rule a finished) three in
    let five = added _ _ _ max_size c.in_ok-arg-5.ensures c.run_max_size.ensures.local c.run_max_size.ensures.rule ∙ ap (λ (a : App). with_rule a max_size) four in
    IfOk-weaker c.arg-6.result _ _ (λ r h. added _ _ r uploads h c.run_uploads.ensures.local c.run_uploads.ensures.rule ∙ ap (λ (a : App). with_rule a uploads) five) c.arg-6.ensures
