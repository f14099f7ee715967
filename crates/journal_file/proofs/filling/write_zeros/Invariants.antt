use Rattle.std.proofs.Common.{◌≡◌, ◌-◌, ◌<◌, ◌≤◌, IsTrue}
use Rattle.sqlite_disk.specs.Disk.{Follows, Holds, Mixed, Torn}
use Rattle.journal_frames.specs.Crash.{zeros}
use Rattle.journal_file.proofs.filling.write_zeros.Given as goal

abbrev pub invariant-pieces : goal.invariant-pieces
invariant-pieces g l = record {
  within : l.done ≤ l.len;
  usable : IsTrue (g.D.Disk.is_usable l.disk);
  mixing : IsTrue (g.D.Disk.is_mixing l.disk);
  filled : 0 < l.done → Holds (g.D.Disk.seen l.disk) l.at (zeros l.done);
  others : Torn l.at l.done (g.D.Disk.seen l.fn.disk) (g.D.Disk.seen l.disk);
  crash : Follows (Mixed l.at (zeros l.done)) (g.D.Disk.may_leave l.fn.disk) (g.D.Disk.may_leave l.disk);
  clean : g.D.Disk.is_clean l.disk ≡ g.D.Disk.is_clean l.fn.disk;
  faults : g.D.Disk.faults l.disk ≡ g.D.Disk.faults l.fn.disk;
}

abbrev pub decreases-pieces : goal.decreases-pieces
decreases-pieces g l = l.len - l.done
