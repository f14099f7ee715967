use Rattle.std.proofs.Common.{sym, ◌∙◌}
use Rattle.upload_book.specs.Charge.{price}
use Rattle.upload_book.specs.inside.ChargeAfter.{left, sources_kept}
use Rattle.upload_book.proofs.Charge.ChargeAfterLemmas.{dearest_left-more, dearest_left-over}
use Rattle.upload_book.proofs.charge_after.price_left.Goals.{then-is_left, else-is_left}
use Rattle.upload_book.proofs.charge_after.price_left.Goals as goal

pub loop-upload-preserved : goal.loop-upload-preserved
loop-upload-preserved c =
    let all = price c.args.size (sources_kept (left c.args.ended.now.at c.args.uploads.now)) c.args.origin in
    elim c.if-is_left.branch [
      | then-is_left w ↦
          rw w.most-is (dearest_left-more c.args.size c.args.origin c.loop-upload.most w.price_from.result w.max-most.result all c.args.ended.now.at c.args.uploads.now c.loop-upload.upload-index c.upload-item.result c.loop-upload-test.true c.upload-item.is (sym c.is_left.ensures ∙ w.if-is_left.true) w.price_from.ensures w.max-most.ensures c.loop-upload.invariant)
      | else-is_left w ↦
          rw w.most-is (dearest_left-over c.args.size c.args.origin c.loop-upload.most all c.args.ended.now.at c.args.uploads.now c.loop-upload.upload-index c.upload-item.result c.loop-upload-test.true c.upload-item.is (sym c.is_left.ensures ∙ w.if-is_left.false) c.loop-upload.invariant)
    ]
