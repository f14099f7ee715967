use Rattle.http_wire.proofs.HeadFieldsLemmas.{shown_more}
use Rattle.http_wire.proofs.read.fields.note_all.Goals as goal

pub loop-span-preserved : goal.loop-span-preserved
loop-span-preserved c =
    shown_more c.args.head.now c.args.number c.args.spans.now c.loop-span.span-index _ _ _ c.loop-span-test.true c.note.ensures c.loop-span.invariant
