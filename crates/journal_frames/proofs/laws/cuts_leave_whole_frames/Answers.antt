use Rattle.journal_frames.proofs.CrashLemmas.{cuts_whole_frames}
use Rattle.journal_frames.proofs.laws.cuts_leave_whole_frames.Goals as goal

pub returns : goal.returns
returns c = cuts_whole_frames
