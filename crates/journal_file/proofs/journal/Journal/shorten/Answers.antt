use Rattle.std.proofs.Common.{refl}
use Rattle.journal_file.proofs.JournalLemmas.{shorten_keeps}
use Rattle.journal_file.proofs.journal.Journal.shorten.Goals as goal

pub returns-clause-stays : goal.returns-clause-stays
returns-clause-stays g c = λ synced unsynced is. shorten_keeps c.args.self.now _ synced unsynced is refl refl refl c.set_len.ensures.others c.set_len.ensures.crash

pub returns-in_err-set_len-clause-stays : goal.returns-in_err-set_len-clause-stays
returns-in_err-set_len-clause-stays g c = λ synced unsynced is. shorten_keeps c.args.self.now _ synced unsynced is refl refl refl c.set_len.ensures.others c.set_len.ensures.crash
