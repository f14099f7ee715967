use Rattle.journal_file.proofs.JournalLemmas.{journal_leaves}
use Rattle.journal_file.proofs.journal.Journal.tell_crash.Goals as goal

pub returns : goal.returns
returns g c = λ synced unsynced is. journal_leaves c.args.self.now synced unsynced is
