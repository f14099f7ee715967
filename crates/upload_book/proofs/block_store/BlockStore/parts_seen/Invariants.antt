use Rattle.std.proofs.Common.{take}
use Rattle.upload_book.proofs.Steps.PartLemmas.{AreSeen}
use Rattle.upload_book.proofs.block_store.BlockStore.parts_seen.Given as goal

-- the parts so far were seen so
abbrev pub invariant-loop-part : goal.invariant-loop-part
invariant-loop-part l = AreSeen l.self l.tenant (take l.part-index l.named) l.now l.seen
