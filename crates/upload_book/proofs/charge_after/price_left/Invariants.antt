use Rattle.std.proofs.Common.{◌≡◌, drop, max}
use Rattle.upload_book.specs.Charge.{price}
use Rattle.upload_book.specs.inside.ChargeAfter.{left, sources_kept}
use Rattle.upload_book.proofs.charge_after.price_left.Given as goal

-- the most so far, and the price in the rest, are the price in all
abbrev pub invariant-loop-upload : goal.invariant-loop-upload
invariant-loop-upload l =
    max l.most (price l.size (sources_kept (left l.ended.at (drop l.upload-index l.uploads))) l.origin) ≡ price l.size (sources_kept (left l.ended.at l.uploads)) l.origin
