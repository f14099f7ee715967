use Rattle.head_board.proofs.LineLemmas.{lines_have_room}
use Rattle.head_board.proofs.laws.lines_have_room.Goals as goal

pub returns : goal.returns
returns c = lines_have_room
