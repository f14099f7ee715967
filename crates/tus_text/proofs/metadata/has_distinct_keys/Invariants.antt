use Rattle.std.proofs.Common.{◌≡◌, ◌+◌, ◌*◌, ◌≤◌, ◌++◌, length, IsTrue}
use Rattle.std.specs.List.{list_all}
use Rattle.tus_text.proofs.DistinctLemmas.{texts_of}
use Rattle.tus_text.proofs.MetadataLemmas.{keys_of}
use Rattle.tus_text.specs.Metadata.{is_pair, pairs_of}
use Rattle.tus_text.proofs.metadata.has_distinct_keys.Given as goal

-- the keys so far and those of the rest are the text's
abbrev pub invariant-loop-rest : goal.invariant-loop-rest
invariant-loop-rest l =
    record {
      keys : texts_of l.keys.items ++ keys_of l.rest ≡ keys_of l.text;
      pairs : IsTrue (list_all is_pair (pairs_of l.rest));
      room : 2 * length l.keys.items + length l.rest ≤ 1024;
    }

abbrev pub decreases-loop-rest : goal.decreases-loop-rest
decreases-loop-rest l = length l.rest
