use Rattle.std.proofs.Common.{◌≡◌, drop}
use Rattle.tus_text.specs.Metadata.{are_distinct}
use Rattle.tus_text.proofs.MetadataLemmas.{keys_of}
use Rattle.tus_text_tests.proofs.plain.metadata.has_distinct_keys.Given as goal

-- the keys from here on decide
abbrev pub invariant-loop-number : goal.invariant-loop-number
invariant-loop-number l = are_distinct (drop l.number (keys_of l.text)) ≡ are_distinct (keys_of l.text)
