use Rattle.journal_tests.proofs.TearingLemmas.{write_either}
use Rattle.journal_tests.proofs.tests.torn_disk.TornDiskDisk.write_at.Goals as goal

pub returns-clause-mixed : goal.returns-clause-mixed
returns-clause-mixed c = λ mixing fits left tears. write_either c.overwrite.result _ _ c.args.self.now.synced.items c.args.bytes.now c.args.at c.overwrite.ensures.written c.overwrite.ensures.others c.overwrite.ensures.err left tears

pub returns-clause-crash : goal.returns-clause-crash
returns-clause-crash c = λ left tears.
    let from = write_either c.overwrite.result _ _ c.args.self.now.synced.items c.args.bytes.now c.args.at c.overwrite.ensures.written c.overwrite.ensures.others c.overwrite.ensures.err left tears in
    (from.0, from.1, from.2.torn)
