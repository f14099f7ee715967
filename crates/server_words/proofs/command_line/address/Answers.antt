use Rattle.server_words.proofs.CommandLineLemmas.{helped}
use Rattle.server_words.proofs.command_line.address.Goals as goal

pub returns : goal.returns
returns c =
    let shown = helped c.text.result c.help.result _ _ c.text.ensures.rule c.text.ensures.local c.help.ensures in
    record { rule = shown.0; local = shown.1 }
