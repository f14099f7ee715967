use Rattle.std.proofs.Common.{arith}
use Rattle.journal_frames.proofs.FirstFrames.{first_frame-judged, told_alike, told_stands}
use Rattle.journal_frames.proofs.reader.first_frame.Goals as goal

pub returns : goal.returns
returns c =
    let value = told_alike c.judged.result _ _ (first_frame-judged c.args.key c.args.file.now _ _ _ _ c.if-file-lt16.false c.number_at-len.ensures.number c.number_at-len.ensures.behind c.number_at-told.ensures.number c.number_at-told.ensures.behind) c.judged.ensures in
    record { value = value; stands = told_stands c.args.key c.args.file.now c.judged.result (λ i. omega (arith, c.type_inv.file i)) value }
