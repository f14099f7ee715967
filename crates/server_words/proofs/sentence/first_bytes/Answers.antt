use Rattle.std.proofs.Common.{arith, length-take-le, sym}
use Rattle.std.proofs.lemmas.List.{take_all}
use Rattle.server_words.proofs.sentence.first_bytes.Goals as goal

pub slice_bounds-result-end : goal.slice_bounds-result-end
slice_bounds-result-end c = sym (length-take-le 48 c.args.bytes.now (omega (arith, c.if-bytes-le48.false)))

pub returns-then-bytes-le48-clause-value : goal.returns-then-bytes-le48-clause-value
returns-then-bytes-le48-clause-value c = sym (take_all 48 c.args.bytes.now c.if-bytes-le48.true)

pub returns-else-bytes-le48-clause-fits : goal.returns-else-bytes-le48-clause-fits
returns-else-bytes-le48-clause-fits c = omega (arith, length-take-le 48 c.args.bytes.now (omega (arith, c.if-bytes-le48.false)))
