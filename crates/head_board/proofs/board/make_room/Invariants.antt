use Rattle.std.proofs.Common.{◌≡◌, drop, fold}
use Rattle.head_board.specs.inside.Showing.{noted}
use Rattle.head_board.proofs.board.make_room.Given as goal

-- what is to be shown is what was
abbrev pub invariant-loop : goal.invariant-loop
invariant-loop l =
    (l.writer.desk ≡ l.fn.writer.desk)
    × (fold noted l.writer.desk.shown.value (drop l.writer.behind l.writer.log.items) ≡ fold noted l.fn.writer.desk.shown.value (drop l.fn.writer.behind l.fn.writer.log.items))
