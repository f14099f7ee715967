use Rattle.journal_frames.proofs.TornTails.{stays_torn}
use Rattle.journal_frames.proofs.laws.torn_tails_stay_torn.Goals as goal

pub returns : goal.returns
returns c = stays_torn
