use Rattle.upload_book.proofs.Steps.PartLemmas.{AreSeen-next, AreSeen-next_missing}
use Rattle.upload_book.proofs.block_store.BlockStore.parts_seen.Goals.{in-Some, in-None}
use Rattle.upload_book.proofs.block_store.BlockStore.parts_seen.Goals as goal

pub loop-part-preserved : goal.loop-part-preserved
loop-part-preserved c = elim c.match-part.branch [
  | in-Some w ↦
      rw (w.seen-is, w.with-seen.ensures) (AreSeen-next c.args.self.now c.args.tenant c.args.named.now c.args.now c.loop-part.part-index w.in-Some.place c.loop-part.seen w.progress.result c.loop-part-test.true c.loop-part.invariant w.in-Some.ensures.place w.progress.ensures)
  | in-None w ↦
      rw (w.seen-is, w.with_missing-seen.ensures) (AreSeen-next_missing c.args.self.now c.args.tenant c.args.named.now c.args.now c.loop-part.part-index c.loop-part.seen c.loop-part-test.true c.loop-part.invariant w.in-None.ensures.none)
]
