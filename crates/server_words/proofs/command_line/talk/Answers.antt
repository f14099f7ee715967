use Rattle.std.proofs.Common.{◌∙◌, ap, codes}
use Rattle.std.proofs.lemmas.Result.{IfOk-weaker}
use Rattle.clap.specs.Words.{App, Rule, with_rule}
use Rattle.server_words.specs.CommandLine.{journal_rule, option_rule, pieces_rule, tenant_rule, with_sizes}
use Rattle.server_words.proofs.CommandLineLemmas.{added}
use Rattle.server_words.proofs.command_line.talk.Goals as goal

abbrev moment : Rule
moment = option_rule (codes "moment") (codes "0") 253402300799

pub returns : goal.returns
returns c =
    let one = added _ _ _ moment c.in_ok-arg.ensures c.moment.ensures.local c.moment.ensures.rule ∙ ap (λ (a : App). with_rule a moment) c.talk_alone.ensures in
    let two = added _ _ _ journal_rule c.in_ok-arg-2.ensures c.journal.ensures.local c.journal.ensures.rule ∙ ap (λ (a : App). with_rule a journal_rule) one in
    let three = added _ _ _ pieces_rule c.in_ok-command.ensures c.pieces.ensures.local c.pieces.ensures.rule ∙ ap (λ (a : App). with_rule a pieces_rule) two in
    let sizes = c.in_ok-sizes.ensures ∙ ap with_sizes three in
    IfOk-weaker c.arg-4.result _ _ (λ r h. added _ _ r tenant_rule h c.tenants.ensures.local c.tenants.ensures.rule ∙ ap (λ (a : App). with_rule a tenant_rule) sizes) c.arg-4.ensures
