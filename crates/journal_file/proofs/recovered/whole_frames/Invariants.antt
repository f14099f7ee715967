use Rattle.std.proofs.Common.{◌≡◌, length}
use Rattle.journal_file.proofs.RecoverLemmas.{ReadSoFar}
use Rattle.journal_file.proofs.recovered.whole_frames.Given as goal

abbrev pub invariant-frames : goal.invariant-frames
invariant-frames l = record {
  key : l.frames.key ≡ l.key;
  so_far : ReadSoFar l.key l.file l.frames.rest.now l.count;
}

abbrev pub decreases-frames : goal.decreases-frames
decreases-frames l = length l.frames.rest.now
