use Rattle.std.proofs.Common.{◌≡◌, sum, arith, rules}
use Rattle.journal_frames.proofs.Sums.{sum_of_bytes}
use Rattle.journal_frames.proofs.writer.sum_of.Goals as goal

pub returns-clause-bound : goal.returns-clause-bound
returns-clause-bound c =
    let value : c.sum.result ≡ sum c.args.bytes.now = search rules in
    omega (arith, sum_of_bytes c.args.bytes.now (λ i. omega (arith, c.type_inv.bytes i)))
