use Rattle.std.proofs.Common.{◌≡◌, drop}
use Rattle.left_right.specs.Sides.{view as known_at}
use Rattle.head_board.proofs.board.published.Given as goal

-- what is shown, what is to be shown and what is known are what they were
abbrev pub invariant-loop : goal.invariant-loop
invariant-loop g l =
    (l.writer.desk.shown.value ≡ l.fn.writer.desk.shown.value)
    × (drop l.writer.behind l.writer.log.items ≡ drop l.fn.writer.behind l.fn.writer.log.items)
    × (known_at l.writer.desk.place ≡ known_at l.fn.writer.desk.place)
