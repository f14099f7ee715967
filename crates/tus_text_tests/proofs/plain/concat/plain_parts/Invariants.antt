use Rattle.std.proofs.Common.{◌≡◌, ◌≤◌, drop, length}
use Rattle.std.specs.List.{slice_split}
use Rattle.tus_text.specs.Cut.{is_space}
use Rattle.tus_text.specs.Concat.{join_cuts, parts_of}
use Rattle.tus_text.proofs.ConcatLemmas.{joined}
use Rattle.tus_text_tests.proofs.plain.concat.plain_parts.Given as goal

-- the parts so far and those of the cuts from here on are the list's
abbrev pub invariant-loop-number : goal.invariant-loop-number
invariant-loop-number l = record {
  all : joined l.parts.items (parts_of (join_cuts (drop l.number (slice_split is_space l.list)))) ≡ parts_of (join_cuts (slice_split is_space l.list));
  fits : length l.parts.items ≤ 32;
}
