use Rattle.journal_tests.proofs.TearingLemmas.{cut_either}
use Rattle.journal_tests.proofs.tests.torn_disk.TornDiskDisk.set_len.Goals as goal

pub returns-clause-crash : goal.returns-clause-crash
returns-clause-crash c = λ left tears. cut_either c.resize.result _ _ c.args.self.now.synced.items c.args.len c.resize.ensures.len c.resize.ensures.others c.resize.ensures.err left tears
