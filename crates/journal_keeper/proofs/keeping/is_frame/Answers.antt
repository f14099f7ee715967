use Rattle.std.proofs.Common.{◌≤◌, ◌+◌, ◌^◌, length, arith}
use Rattle.std.proofs.lemmas.Bool.Decides.{nat_tests}
use Rattle.journal_keeper.proofs.FrameLemmas.{frame-fits}
use Rattle.journal_keeper.proofs.keeping.is_frame.Goals as goal

pub returns : goal.returns
returns c = λ yes key payload is.
    let within : length c.args.frame.now ≤ 24 + 2 ^ 32 = grind (arith, nat_tests) in
    frame-fits key payload c.args.frame.now is within (λ i. omega (arith, c.type_inv.frame (i)))
