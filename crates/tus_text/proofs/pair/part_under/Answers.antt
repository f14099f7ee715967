use Rattle.std.proofs.Common.{List, ℕ, sym, ap, ◌∙◌, rules, tests}
use Rattle.std.specs.Prelude.{bytes_eq, option_map}
use Rattle.std.specs.List.{slice_split}
use Rattle.std.proofs.lemmas.Iterator.Search.{find_from_yields_List}
use Rattle.std.proofs.lemmas.Iterator.Splits.{YieldsList-from_slice_split}
use Rattle.tus_text.specs.Cut.{trim_spaces}
use Rattle.tus_text.specs.Metadata.{is_comma, key_of}
use Rattle.tus_text.proofs.MetadataLemmas.{find-map, map-twice}
use Rattle.tus_text.proofs.pair.part_under.Goals as goal

pub returns : goal.returns
returns c =
    let text = c.args.metadata.now in
    let has_key = λ (pair : List ℕ). bytes_eq (key_of pair) c.args.key.now in
    let found = find_from_yields_List (λ part. has_key (trim_spaces part)) _ _ c.find.result c.find.ensures.ran (YieldsList-from_slice_split _ is_comma text c.split.ensures.rest c.split.ensures.done c.split.ensures.closure (λ x b q k. search (rules, tests))) (λ x b q k. search (rules, tests)) in
    map-twice trim_spaces (λ part. part.now) c.find.result ∙ ap (option_map trim_spaces) found ∙ sym (find-map has_key trim_spaces (slice_split is_comma text))
