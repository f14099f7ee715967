use Rattle.journal_folders.proofs.ReadLemmas.{ends-within, no-bytes, read-nothing, read-whole, some-bytes}
use Rattle.journal_folders.proofs.reading.frames_of.Goals as goal

pub returns-then-is_empty-clause-frames : goal.returns-then-is_empty-clause-frames
returns-then-is_empty-clause-frames c = read-nothing c.args.file.now (no-bytes c.args.file.now c.is_empty.result c.is_empty.ensures c.if-is_empty.true)

pub returns-clause-frames : goal.returns-clause-frames
returns-clause-frames c = read-whole c.args.file.now c.whole_frames.result c.whole_frames.ensures.end c.whole_frames.ensures.count

pub returns-clause-within : goal.returns-clause-within
returns-clause-within c = ends-within c.args.file.now c.whole_frames.result c.whole_frames.ensures.room

pub returns-clause-some : goal.returns-clause-some
returns-clause-some c = some-bytes c.args.file.now c.is_empty.result c.is_empty.ensures c.if-is_empty.false c.whole_frames.result
