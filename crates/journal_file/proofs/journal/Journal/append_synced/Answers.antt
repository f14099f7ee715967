use Rattle.std.proofs.Common.{ℕ, ◌++◌, subst}
use Rattle.journal_frames.specs.Crash.{Leaves}
use Rattle.journal_file.proofs.journal.Journal.append_synced.Goals as goal

pub returns-clause-appended : goal.returns-clause-appended
returns-clause-appended g c = λ synced unsynced more is fit are. c.sync.ensures.synced synced (unsynced ++ more) (c.in_ok-append_each.ensures.appended synced unsynced more is fit are)

pub returns-clause-any_crash : goal.returns-clause-any_crash
returns-clause-any_crash g c = λ synced unsynced more is fit are left may.
    let appended = c.in_ok-append_each.ensures.appended synced unsynced more is fit are in
    subst (λ (k : ℕ). Leaves k synced (unsynced ++ more) left) c.append_each.ensures.key (c.sync.ensures.any_crash synced (unsynced ++ more) appended left may)
