use Rattle.std.proofs.Common.{refl}
use Rattle.journal_keeper.proofs.CompactionLemmas.{synced-has}
use Rattle.journal_keeper.proofs.KeeperLemmas.{on_ok}
use Rattle.journal_keeper.proofs.compaction.Compaction.write_slice.Goals as goal

pub returns : goal.returns
returns g c = λ key records have. on_ok c.sync.result _ (synced-has c.slice.self _ key records (c.slice.invariant key records have) c.sync.ensures.key c.sync.ensures.stays refl refl)
