use Rattle.std.proofs.Common.{◌≡◌, ◌∙◌, false, map, subst, sym, true}
use Rattle.clap.specs.Words.{HasKind, Kinds}
use Rattle.server_words.specs.CommandLine.{are_of_journal, ask_help_of_journal}
use Rattle.server_words.proofs.HelpLemmas.{faults-of-help}
use Rattle.server_words.proofs.command_line.parsed.Goals as goal

pub returns-then-ask_help_of_journal-clause-faults :
    goal.returns-then-ask_help_of_journal-clause-faults
returns-then-ask_help_of_journal-clause-faults g c =
    let words = map g.S.AsStr.text c.args.words.now in
    let other : are_of_journal words ≡ false = sym c.are_of_journal.ensures.value ∙ c.if-are_of_journal.false in
    let asked : ask_help_of_journal words ≡ true = sym c.ask_help_of_journal.ensures ∙ c.if-ask_help_of_journal.true in
    subst (λ (kinds : Kinds). HasKind kinds c.help_of_journal.result) (sym (faults-of-help words other asked)) c.help_of_journal.ensures
