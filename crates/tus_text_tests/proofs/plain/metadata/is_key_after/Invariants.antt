use Rattle.std.proofs.Common.{◌≡◌, ◌+◌, drop}
use Rattle.std.specs.List.{list_any}
use Rattle.std.specs.Str.{bytes_eq}
use Rattle.tus_text.proofs.MetadataLemmas.{keys_of}
use Rattle.tus_text_tests.proofs.plain.metadata.is_key_after.Given as goal

-- the keys from here on decide
abbrev pub invariant-loop-later : goal.invariant-loop-later
invariant-loop-later l = list_any (bytes_eq l.key) (drop l.later (keys_of l.text)) ≡ list_any (bytes_eq l.key) (drop (l.number + 1) (keys_of l.text))
