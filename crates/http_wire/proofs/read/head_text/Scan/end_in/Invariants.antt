use Rattle.std.proofs.Common.{◌-◌, length}
use Rattle.http_wire.proofs.ScanLemmas.{IsSearching}
use Rattle.http_wire.proofs.read.head_text.Scan.end_in.Given as goal

-- the search goes on behind the lines that were seen
abbrev pub invariant-loop-more : goal.invariant-loop-more
invariant-loop-more l = IsSearching l.initial.self l.bytes l.self l.seen

abbrev pub decreases-loop-more : goal.decreases-loop-more
decreases-loop-more l = length l.bytes - l.seen
