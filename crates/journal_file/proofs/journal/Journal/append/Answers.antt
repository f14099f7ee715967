use Rattle.std.proofs.Common.{arith, refl}
use Rattle.journal_file.proofs.JournalLemmas.{append_crash, append_keeps, journal_leaves, leaves_more}
use Rattle.journal_file.proofs.journal.Journal.append.Goals as goal

pub returns-then-bytes-room-clause-any_crash : goal.returns-then-bytes-room-clause-any_crash
returns-then-bytes-room-clause-any_crash g c = λ synced unsynced more is fit are left may. leaves_more _ synced unsynced more left (journal_leaves c.args.self.now synced unsynced is left may)

pub returns-in_err-check_disk-clause-any_crash : goal.returns-in_err-check_disk-clause-any_crash
returns-in_err-check_disk-clause-any_crash g c = λ synced unsynced more is fit are left may. leaves_more _ synced unsynced more left (journal_leaves c.args.self.now synced unsynced is left may)

pub returns-in_err-write_at-clause-any_crash : goal.returns-in_err-write_at-clause-any_crash
returns-in_err-write_at-clause-any_crash g c = λ synced unsynced more is fit are left may. append_crash c.args.self.now _ synced unsynced more c.args.bytes.now is fit are (omega arith) (c.write_at.ensures.mixed c.in_ok-check_disk.ensures.mixing (omega (arith, c.args.self.now.in_range))) left may

pub returns-clause-appended : goal.returns-clause-appended
returns-clause-appended g c = λ synced unsynced more is fit are. append_keeps c.args.self.now _ synced unsynced more c.args.bytes.now is fit are (omega (arith, c.args.self.now.margin)) refl refl refl c.write_at.ensures.others c.in_ok-write_at.ensures.written (c.write_at.ensures.mixed c.in_ok-check_disk.ensures.mixing (omega (arith, c.args.self.now.in_range)))

pub returns-clause-any_crash : goal.returns-clause-any_crash
returns-clause-any_crash g c = λ synced unsynced more is fit are left may. append_crash c.args.self.now _ synced unsynced more c.args.bytes.now is fit are (omega (arith, c.args.self.now.margin)) (c.write_at.ensures.mixed c.in_ok-check_disk.ensures.mixing (omega (arith, c.args.self.now.in_range))) left may
