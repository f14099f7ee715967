use Rattle.std.proofs.Common.{◌≡◌, drop}
use Rattle.upload_book.specs.inside.FinalBack.{chain_from}
use Rattle.upload_book.proofs.pieces.chain_from.Given as goal

-- what is found in the rest is what is found in all
abbrev pub invariant-loop-place : goal.invariant-loop-place
invariant-loop-place l = chain_from (drop l.place l.pieces) l.origin ≡ chain_from l.pieces l.origin
