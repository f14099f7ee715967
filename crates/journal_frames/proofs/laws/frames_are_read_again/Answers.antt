use Rattle.journal_frames.proofs.WholeFrames.{frames_again}
use Rattle.journal_frames.proofs.laws.frames_are_read_again.Goals as goal

pub returns : goal.returns
returns c = frames_again
