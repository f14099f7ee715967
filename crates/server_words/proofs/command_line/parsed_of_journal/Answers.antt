use Rattle.std.proofs.Common.{map}
use Rattle.std.proofs.lemmas.Result.{IfOk-weaker}
use Rattle.server_words.specs.CommandLine.{journal_program}
use Rattle.server_words.proofs.CommandLineLemmas.{fails_by, journal_is_free, journal_is_simple, matches_found}
use Rattle.server_words.proofs.command_line.parsed_of_journal.Goals as goal

pub returns-clause-found : goal.returns-clause-found
returns-clause-found g c =
    let words = map g.S.AsStr.text c.args.words.now in
    IfOk-weaker c.try_get_matches_from.result _ _ (λ m h. matches_found journal_program journal_is_simple _ words m c.in_ok-journal_command.ensures h) c.try_get_matches_from.ensures.matches

pub returns-clause-faults : goal.returns-clause-faults
returns-clause-faults g c =
    let words = map g.S.AsStr.text c.args.words.now in
    fails_by journal_program journal_is_free _ words c.try_get_matches_from.result c.in_ok-journal_command.ensures c.try_get_matches_from.ensures.kinds
