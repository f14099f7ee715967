use Rattle.std.proofs.Common.{◌≡◌, ◌+◌, drop}
use Rattle.http_wire.specs.HeadText.{blank_len}
use Rattle.http_wire.proofs.read.head_text.count_blank.Given as goal

-- all bytes so far are line ends
abbrev pub invariant-loop-index : goal.invariant-loop-index
invariant-loop-index l = blank_len l.bytes ≡ l.index + blank_len (drop l.index l.bytes)
