use Rattle.std.proofs.Common.{◌≡◌, drop}
use Rattle.std.specs.List.{list_all}
use Rattle.tus_text.specs.Metadata.{is_pair, pairs_of}
use Rattle.tus_text_tests.proofs.plain.metadata.are_pairs.Given as goal

-- the pairs from here on decide
abbrev pub invariant-loop-number : goal.invariant-loop-number
invariant-loop-number l = list_all is_pair (drop l.number (pairs_of l.text)) ≡ list_all is_pair (pairs_of l.text)
