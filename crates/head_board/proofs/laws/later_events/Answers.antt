use Rattle.head_board.proofs.LineLemmas.{later_events}
use Rattle.head_board.proofs.laws.later_events.Goals as goal

pub returns : goal.returns
returns c = later_events
