use Rattle.std.proofs.Common.{◌≡◌, drop}
use Rattle.upload_book.specs.inside.FinalBack.{brought_from}
use Rattle.upload_book.proofs.final_back.brought_len.Given as goal

-- what is found in the rest is what is found in all
abbrev pub invariant-loop-place : goal.invariant-loop-place
invariant-loop-place l = brought_from (drop l.place l.segments) l.origin ≡ brought_from l.segments l.origin
