use Rattle.std.proofs.Common.{◌≡◌, ℕ, List, ◌++◌, drop, fold, length}
use Rattle.head_board.specs.declared.board_copy.Note.TheVariants.{More}
use Rattle.head_board.specs.inside.Showing.{noted}
use Rattle.head_board.proofs.board.note_text.Given as goal

-- the bytes before those that are left came
abbrev pub invariant-loop-rest : goal.invariant-loop-rest
invariant-loop-rest g l =
    (came : List ℕ) × (came ++ l.rest ≡ l.fn.text)
    × (l.writer.desk ≡ l.fn.writer.desk)
    × (fold noted l.writer.desk.shown.value (drop l.writer.behind l.writer.log.items) ≡ noted (fold noted l.fn.writer.desk.shown.value (drop l.fn.writer.behind l.fn.writer.log.items)) (More l.fn.field came))

abbrev pub decreases-loop-rest : goal.decreases-loop-rest
decreases-loop-rest g l = length l.rest
