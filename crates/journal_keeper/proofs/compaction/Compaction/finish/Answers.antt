use Rattle.journal_keeper.proofs.CompactionLemmas.{has-all}
use Rattle.journal_keeper.proofs.compaction.Compaction.finish.Goals as goal

pub returns-clause-journal : goal.returns-clause-journal
returns-clause-journal g c = λ key records have. c.finish.ensures.finished records (has-all c.args.self key records have c.requires.pieces c.requires.since)
