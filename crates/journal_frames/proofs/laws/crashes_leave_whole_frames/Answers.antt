use Rattle.journal_frames.proofs.CrashLemmas.{loses_whole_frames}
use Rattle.journal_frames.proofs.laws.crashes_leave_whole_frames.Goals as goal

pub returns : goal.returns
returns c = loses_whole_frames
