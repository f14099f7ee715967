use Rattle.std.proofs.Common.{◌+◌, ◌≤◌, ◌<◌, ◌^◌, length, get_or, arith}
use Rattle.std.proofs.lemmas.Bool.Decides.{nat_tests}
use Rattle.std.proofs.lemmas.List.{get_or-drop, length-drop}
use Rattle.book_replay.proofs.snapshot.fits_a_frame.Goals as goal

pub returns : goal.returns
returns c = λ short.
    let room = c.args.room.now in
    let within : length room ≤ 24 + 2 ^ 32 = grind (arith, nat_tests) in
    record {
      short = omega (arith, within, length-drop 24 room);
      bytes = λ i. let small : get_or room (24 + i) 0 < 256 = omega (arith, c.type_inv.room (24 + i)) in rw (get_or-drop 24 room i 0) small;
    }
