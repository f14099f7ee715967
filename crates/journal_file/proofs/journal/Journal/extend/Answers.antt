use Rattle.std.proofs.Common.{refl}
use Rattle.journal_file.proofs.JournalLemmas.{extend_crash, extend_keeps, extend_stays, journal_leaves, on_err}
use Rattle.journal_file.proofs.journal.Journal.extend.Goals as goal

pub returns-clause-extended : goal.returns-clause-extended
returns-clause-extended g c = λ synced unsynced is. extend_keeps c.args.self.now _ synced unsynced c.args.more is refl refl refl c.fill.ensures.others c.in_ok-fill.ensures.filled c.in_ok-fill.ensures.synced

pub returns-clause-any_crash : goal.returns-clause-any_crash
returns-clause-any_crash g c = λ synced unsynced is left may. extend_crash c.args.self.now _ synced unsynced c.args.more is c.fill.ensures.crash left may

pub returns-in_err-fill-clause-stays : goal.returns-in_err-fill-clause-stays
returns-in_err-fill-clause-stays g c = λ synced unsynced is. on_err _ _ (extend_stays c.args.self.now _ synced unsynced c.args.more is refl refl refl c.fill.ensures.others c.fill.ensures.crash)

pub returns-in_err-fill-clause-any_crash : goal.returns-in_err-fill-clause-any_crash
returns-in_err-fill-clause-any_crash g c = λ synced unsynced is left may. extend_crash c.args.self.now _ synced unsynced c.args.more is c.fill.ensures.crash left may

pub returns-then-more-len-clause-any_crash : goal.returns-then-more-len-clause-any_crash
returns-then-more-len-clause-any_crash g c = λ synced unsynced is. journal_leaves c.args.self.now synced unsynced is

pub returns-in_err-check_disk-clause-any_crash : goal.returns-in_err-check_disk-clause-any_crash
returns-in_err-check_disk-clause-any_crash g c = λ synced unsynced is. journal_leaves c.args.self.now synced unsynced is
