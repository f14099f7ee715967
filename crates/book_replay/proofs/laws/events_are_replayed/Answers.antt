use Rattle.book_replay.proofs.ReplayLemmas.{all-replayed}
use Rattle.book_replay.proofs.laws.events_are_replayed.Goals as goal

pub returns : goal.returns
returns c = all-replayed
