use Rattle.std.proofs.Common.{◌≡◌, ◌++◌}
use Rattle.percent_encoding.specs.Iter.{encoded_text}
use Rattle.percent_encoding.specs.Percent.{percent_encode}
use Rattle.http_wire.specs.declared.write.file.TheConstants.{ESCAPED}
use Rattle.http_wire.proofs.write.file.put_escaped.Given as goal

-- what was put and what is to come are all
abbrev pub invariant-loop-piece : goal.invariant-loop-piece
invariant-loop-piece l = l.page ++ encoded_text l.piece-iterator ≡ l.fn.page ++ percent_encode ESCAPED l.name
