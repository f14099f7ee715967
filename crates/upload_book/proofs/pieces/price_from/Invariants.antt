use Rattle.std.proofs.Common.{◌≡◌, drop, max}
use Rattle.upload_book.specs.Charge.{price}
use Rattle.upload_book.specs.inside.ChargeAfter.{sources_in}
use Rattle.upload_book.proofs.pieces.price_from.Given as goal

-- the most so far, and the price in the rest, are the price in all
abbrev pub invariant-loop-place : goal.invariant-loop-place
invariant-loop-place l =
    max l.most (price l.size (sources_in (drop l.place l.pieces)) l.origin) ≡ price l.size (sources_in (drop l.from l.pieces)) l.origin
