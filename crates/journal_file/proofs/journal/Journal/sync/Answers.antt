use Rattle.journal_file.proofs.JournalLemmas.{journal_leaves}
use Rattle.journal_file.proofs.journal.Journal.sync.Goals as goal

pub returns-clause-any_crash : goal.returns-clause-any_crash
returns-clause-any_crash g c = λ synced unsynced is left may. journal_leaves c.args.self.now synced unsynced is left (c.sync_disk.ensures.crash left may)
