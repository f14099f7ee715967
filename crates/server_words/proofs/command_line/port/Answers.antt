use Rattle.std.proofs.Common.{◌≡◌, ◌∙◌, ap, codes, Some}
use Rattle.clap.specs.Words.{Rule, Text}
use Rattle.clap.specs.declared.builder.value_parser.ValueParser.{ValueParser}
use Rattle.clap.specs.declared.builder.value_parser.ValueParser.TheVariants as parser
use Rattle.server_words.specs.CommandLine.{option_rule}
use Rattle.server_words.proofs.CommandLineLemmas.{helped, ranged}
use Rattle.server_words.proofs.command_line.port.Goals as goal

abbrev with_parser : Text → ValueParser → Rule
with_parser default q = record (option_rule (codes "port") default 18446744073709551615) { parser = Some q }

pub returns : goal.returns
returns c =
    let narrows : c.range.result ≡ parser.Unsigned 0 65535 = rw c.value_parser.ensures at c.range.ensures in
    let given = c.value_parser-2.ensures.given in
    let narrowed = ranged c.number.result c.value_parser-2.result _ _ _ given.0 c.number.ensures.rule c.number.ensures.local c.value_parser-2.ensures.others given.1 in
    let shown = helped c.value_parser-2.result c.help.result _ _ (narrowed.0 ∙ ap (with_parser c.args.default.now) (given.2 ∙ narrows)) narrowed.1 c.help.ensures in
    record { rule = shown.0; local = shown.1 }
