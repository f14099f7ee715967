use Rattle.std.proofs.Common.{sym, subst}
use Rattle.left_right.specs.Sides.{view}
use Rattle.head_board.specs.inside.Showing.{IsFound}
use Rattle.head_board.proofs.ReaderLemmas.{none-right}
use Rattle.head_board.proofs.head_reader.read_ends.Goals as goal

pub returns-in-Ok-clause-none : goal.returns-in-Ok-clause-none
returns-in-Ok-clause-none c =
    let v = view c.args.seat.reader.place in
    let query = c.args.query in
    none-right v c.get.result.now query.seen query.moment c.seen_unexpired-seen.result c.requires.knows c.requires.log (subst (IsFound v query.seen) (sym c.get.ensures) c.in-Ok.ensures.found) c.seen_unexpired-seen.ensures
