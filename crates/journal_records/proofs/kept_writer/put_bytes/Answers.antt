use Rattle.journal_records.proofs.Kept.{more-put}
use Rattle.journal_records.proofs.kept_writer.put_bytes.Goals as goal

pub lent-preserved : goal.lent-preserved
lent-preserved c =
    rw c.in_ok-extend_from_slice.ensures.items
    (more-put c.args.segment.now.bytes c.args.len c.lent.offset c.args.out.now.items c.lent.out.items c.bytes_from-bytes.result.now c.requires c.bytes_from-bytes.ensures.bytes c.lent.invariant)
