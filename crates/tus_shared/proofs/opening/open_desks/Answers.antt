use Rattle.std.proofs.Common.{ap, refl, ◌∙◌, arith}
use Rattle.head_board.specs.Board.{ReaderView, new_reader}
use Rattle.head_board.specs.inside.EventLog.{LogPrefix}
use Rattle.tus_shared.proofs.SharesLemmas.{new_desks-next}
use Rattle.tus_shared.proofs.opening.open_desks.Goals as goal

pub loop-number-preserved : goal.loop-number-preserved
loop-number-preserved g c =
    let i = c.loop-number.invariant in (
      record {
        total = c.part.ensures.total ∙ i.0.total;
        parts = omega (arith, c.part.ensures.left, i.0.parts);
        rest = c.part.ensures.none_left;
      },
      record {
        total = c.part-in-loop-number.ensures.total ∙ i.1.total;
        parts = omega (arith, c.part-in-loop-number.ensures.left, i.1.parts);
        rest = c.part-in-loop-number.ensures.none_left;
      },
      record {
        total = c.part-in-loop-number-2.ensures.total ∙ i.2.total;
        parts = omega (arith, c.part-in-loop-number-2.ensures.left, i.2.parts);
        rest = c.part-in-loop-number-2.ensures.none_left;
      },
      c.in-Ok-reader.ensures.board ∙ i.3,
      new_desks-next _ _ _ _ _ _ _ _ _ _ _ c.push_reserved.ensures.items i.4 refl c.part.ensures.amount c.part-in-loop-number.ensures.amount c.part-in-loop-number-2.ensures.amount
          (ap (λ (r : ReaderView). r.events) (c.in-Ok-reader.ensures.reader ∙ ap new_reader (i.3 ∙ c.requires.board)))
          (ap (λ (p : LogPrefix). p.events) (c.again-kept.ensures ∙ c.seen.ensures) ∙ ap (λ (r : ReaderView). r.events) (c.in-Ok-reader.ensures.reader ∙ ap new_reader (i.3 ∙ c.requires.board)))
          (ap (λ (r : ReaderView). r.missed) c.in-Ok-reader.ensures.reader),
      omega (arith, c.push_reserved.ensures.len, i.5),
      omega (arith, c.push_reserved.ensures.capacity, i.6),
    )
