use Rattle.std.proofs.Common.{sym, subst}
use Rattle.left_right.specs.Sides.{view}
use Rattle.head_board.specs.inside.Showing.{IsFound}
use Rattle.head_board.proofs.ReaderLemmas.{totals-right}
use Rattle.head_board.proofs.head_reader.read_totals.Goals as goal

pub returns-in-Ok-clause-found : goal.returns-in-Ok-clause-found
returns-in-Ok-clause-found c =
    let v = view c.args.seat.reader.place in
    let seen = c.args.seen in
    totals-right v c.get.result.now seen c.totals_on-found.result.seen c.totals_on-found.result.totals c.requires.knows c.requires.log (subst (IsFound v seen) (sym c.get.ensures) c.in-Ok.ensures.found) c.totals_on-found.ensures.seen c.totals_on-found.ensures.totals
