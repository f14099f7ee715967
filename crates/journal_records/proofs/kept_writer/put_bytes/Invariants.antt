use Rattle.std.proofs.Common.{◌-◌}
use Rattle.journal_records.proofs.Kept.{ArePut}
use Rattle.journal_records.proofs.kept_writer.put_bytes.Given as goal

abbrev pub invariant-lent : goal.invariant-lent
invariant-lent l = ArePut l.segment.bytes l.len l.offset l.fn.out.items l.out.items

abbrev pub decreases-lent : goal.decreases-lent
decreases-lent l = l.len - l.offset
