use Rattle.std.proofs.Common.{refl, ap, sym, subst, ◌∙◌}
use Rattle.left_right.specs.Sides.{view}
use Rattle.upload_book.specs.Heads.{shown}
use Rattle.head_board.specs.Board.{progress_read}
use Rattle.head_board.specs.inside.Showing.{IsFound}
use Rattle.head_board.proofs.ReaderLemmas.{found-log, found-right}
use Rattle.head_board.proofs.head_reader.read_progress.Goals as goal

pub progress_on-found-requires : goal.progress_on-found-requires
progress_on-found-requires c =
    let v = view c.args.seat.reader.place in
    let query = c.args.query in
    found-log v c.get.result.now query.seen query.name c.requires.knows c.requires.log (subst (IsFound v query.seen) (sym c.get.ensures) c.in-Ok.ensures.found)

pub returns-in-Ok-clause-found : goal.returns-in-Ok-clause-found
returns-in-Ok-clause-found c =
    let v = view c.args.seat.reader.place in
    let query = c.args.query in
    let found = c.progress_on-found in
    let row = shown c.get.result.now.table query.name query.moment in
    let right = found-right v c.get.result.now query.seen found.result.seen query.name query.moment row c.requires.knows c.requires.log (subst (IsFound v query.seen) (sym c.get.ensures) c.in-Ok.ensures.found) found.ensures.seen refl in
    (right.0, right.1, right.2, right.3, found.ensures.progress ∙ ap progress_read right.4)
