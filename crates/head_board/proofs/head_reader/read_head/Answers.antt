use Rattle.std.proofs.Common.{sym, subst}
use Rattle.left_right.specs.Sides.{view}
use Rattle.head_board.specs.Board.{row_read}
use Rattle.head_board.specs.inside.Showing.{IsFound}
use Rattle.head_board.proofs.ReaderLemmas.{found-log, found-right}
use Rattle.head_board.proofs.head_reader.read_head.Goals as goal

pub found_on-found-requires : goal.found_on-found-requires
found_on-found-requires c =
    let v = view c.args.seat.reader.place in
    let query = c.args.query in
    found-log v c.get.result.now query.seen query.name c.requires.knows c.requires.log (subst (IsFound v query.seen) (sym c.get.ensures) c.in-Ok.ensures.found)

pub returns-in-Ok-clause-found : goal.returns-in-Ok-clause-found
returns-in-Ok-clause-found c =
    let v = view c.args.seat.reader.place in
    let query = c.args.query in
    let found = c.found_on-found in
    found-right v c.get.result.now query.seen found.result.seen query.name query.moment (row_read found.result.read c.found_on-found.new.row) c.requires.knows c.requires.log (subst (IsFound v query.seen) (sym c.get.ensures) c.in-Ok.ensures.found) found.ensures.seen found.ensures.row
