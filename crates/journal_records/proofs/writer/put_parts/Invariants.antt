use Rattle.std.proofs.Common.{◌≡◌, ◌++◌, length, take}
use Rattle.std.specs.List.{flat_map}
use Rattle.journal_records.specs.Records.{number, optional}
use Rattle.journal_records.proofs.writer.put_parts.Given as goal

abbrev pub invariant-loop-id : goal.invariant-loop-id
invariant-loop-id l = l.out.items ≡ (l.fn.out.items ++ number (length l.ids)) ++ flat_map optional (take l.id-index l.ids)
