use Rattle.std.proofs.Common.{◌≡◌, drop}
use Rattle.access_log.specs.Lines.{line_count}
use Rattle.access_log.proofs.log_writer.whole_lines.Given as goal

-- no line ends in what was looked at
abbrev pub invariant-loop-end : goal.invariant-loop-end
invariant-loop-end l = line_count (drop l.end l.front) ≡ 0
