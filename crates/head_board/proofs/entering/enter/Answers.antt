use Rattle.head_board.proofs.RuleLemmas.{enters}
use Rattle.head_board.proofs.entering.enter.Goals as goal

pub enter_as-requires : goal.enter_as-requires
enter_as-requires c s = enters _ _ s
