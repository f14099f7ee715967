use Rattle.std.proofs.Common.{◌≡◌, drop}
use Rattle.head_board.proofs.board.note_down.Given as goal

abbrev pub invariant-loop : goal.invariant-loop
invariant-loop g l =
    (l.writer.desk ≡ l.fn.writer.desk)
    × (drop l.writer.behind l.writer.log.items ≡ drop l.fn.writer.behind l.fn.writer.log.items)
    × (l.note ≡ l.fn.note)
