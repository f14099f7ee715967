use Rattle.std.proofs.Common.{◌≡◌, length}
use Rattle.tus_text.specs.Concat.{words_of, parts_of}
use Rattle.tus_text.proofs.ConcatLemmas.{joined}
use Rattle.tus_text.proofs.concat.read_parts.Given as goal

-- the parts so far and those of the rest are the list's
abbrev pub invariant-loop-part : goal.invariant-loop-part
invariant-loop-part l = joined l.parts.items (parts_of (words_of l.rest)) ≡ parts_of (words_of l.list)

abbrev pub decreases-loop-part : goal.decreases-loop-part
decreases-loop-part l = length l.rest
