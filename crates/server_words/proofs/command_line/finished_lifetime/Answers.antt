use Rattle.server_words.proofs.CommandLineLemmas.{helped}
use Rattle.server_words.proofs.command_line.finished_lifetime.Goals as goal

pub returns : goal.returns
returns c =
    let shown = helped c.number.result c.help.result _ _ c.number.ensures.rule c.number.ensures.local c.help.ensures in
    record { rule = shown.0; local = shown.1 }
