use Rattle.std.proofs.Common.{◌≡◌, ◌++◌}
use Rattle.percent_encoding.specs.Iter.{encoded_text}
use Rattle.percent_encoding.specs.Percent.{percent_encode}
use Rattle.service_watch.specs.declared.escape.TheConstants.{ESCAPED}
use Rattle.service_watch.proofs.escape.put_escaped.Given as goal

abbrev pub invariant-loop-piece : goal.invariant-loop-piece
invariant-loop-piece l = l.out.items ++ encoded_text l.piece-iterator ≡ l.fn.out.items ++ percent_encode ESCAPED l.text
