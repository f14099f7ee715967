use Rattle.std.proofs.Common.{◌+◌, ◌≤◌, ◌<◌, ◌^◌, length, get_or, arith}
use Rattle.std.proofs.lemmas.Bool.Decides.{nat_tests}
use Rattle.std.proofs.lemmas.List.{get_or-drop, length-drop}
use Rattle.journal_records.proofs.framing.fits.Goals as goal

pub returns-clause-fits : goal.returns-clause-fits
returns-clause-fits c = λ short.
    let bytes = c.args.bytes.now in
    let within : length bytes ≤ 24 + 2 ^ 32 = grind (arith, nat_tests) in
    record {
      short = omega (arith, within, length-drop 24 bytes);
      bytes = λ i. let small : get_or bytes (24 + i) 0 < 256 = omega (arith, c.type_inv.bytes (24 + i)) in rw (get_or-drop 24 bytes i 0) small;
    }
