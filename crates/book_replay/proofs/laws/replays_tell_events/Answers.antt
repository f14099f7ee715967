use Rattle.book_replay.proofs.ReplayLemmas.{replay-told}
use Rattle.book_replay.proofs.laws.replays_tell_events.Goals as goal

pub returns : goal.returns
returns c = replay-told
