use Rattle.journal_file.proofs.JournalLemmas.{journal_leaves}
use Rattle.journal_file.proofs.journal.Journal.make_room.Goals as goal

pub returns-else-len-room-clause-any_crash : goal.returns-else-len-room-clause-any_crash
returns-else-len-room-clause-any_crash g c = λ synced unsynced is left may. journal_leaves c.args.self.now synced unsynced is left may
