use Rattle.std.proofs.Common.{◌++◌, IsTrue, subst}
use Rattle.kept_book.specs.Kept.{disk_in}
use Rattle.kept_book.proofs.StepLemmas.{opened-on}
use Rattle.kept_book.proofs.reopening.crash_and_open.Goals as goal

pub returns-clause-opened : goal.returns-clause-opened
returns-clause-opened g c = λ events leaves.
    let file = g.D.Disk.seen c.crash.new.self in
    let left = leaves file (subst (λ (d : g.row.D.Denot). g.D.Disk.may_leave d file) c.into_disk-disk.ensures c.crash.ensures.left) in
    opened-on c.open.result (λ after. IsTrue (g.D.Disk.is_clean (disk_in after))) c.args.settings events left.more (c.open.ensures.opened (events ++ left.more) left.happened left.records)

pub returns-clause-accepts : goal.returns-clause-accepts
returns-clause-accepts g c = λ events leaves.
    let file = g.D.Disk.seen c.crash.new.self in
    let left = leaves file (subst (λ (d : g.row.D.Denot). g.D.Disk.may_leave d file) c.into_disk-disk.ensures c.crash.ensures.left) in
    c.open.ensures.accepts (events ++ left.more) left.happened left.records left.torn
