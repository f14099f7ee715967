use Rattle.std.proofs.Common.{◌≡◌, ◌∙◌, [], subst, sym}
use Rattle.clap.specs.Walk.{texts}
use Rattle.clap.specs.Words.{HasKind, Kinds}
use Rattle.server_words.specs.CommandLine.{help_kinds}
use Rattle.server_words.proofs.HelpLemmas.{help-in-journal}
use Rattle.server_words.proofs.command_line.journal_help.Goals as goal

pub unreachable-requires : goal.unreachable-requires
unreachable-requires c =
    let none : help_kinds ≡ [] = sym (help-in-journal (texts c.args.words.now) c.requires) ∙ c.in-Ok.ensures.faults in
    cc

pub returns : goal.returns
returns c = subst (λ (kinds : Kinds). HasKind kinds c.in-Err.error) (help-in-journal (texts c.args.words.now) c.requires) c.in-Err.ensures.faults
