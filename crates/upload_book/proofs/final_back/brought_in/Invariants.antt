use Rattle.std.proofs.Common.{◌≡◌, ◌+◌, drop}
use Rattle.upload_book.specs.inside.FinalBack.{brought_in}
use Rattle.upload_book.proofs.final_back.brought_in.Given as goal

-- the blocks so far and those of the rest are those of all
abbrev pub invariant-loop-place : goal.invariant-loop-place
invariant-loop-place l = l.total + brought_in l.size (drop l.place l.segments) ≡ brought_in l.size l.segments
