use Rattle.std.proofs.Common.{sym, ◌∙◌, rules, tests}
use Rattle.std.specs.List.{slice_split}
use Rattle.std.proofs.lemmas.Iterator.Search.{all_from_yields_List}
use Rattle.std.proofs.lemmas.Iterator.Splits.{YieldsList-from_slice_split}
use Rattle.std.proofs.lemmas.List.Folds.{list_all-map}
use Rattle.tus_text.specs.Cut.{trim_spaces}
use Rattle.tus_text.specs.Metadata.{is_comma, is_pair}
use Rattle.tus_text.proofs.metadata.are_pairs.Goals as goal

pub returns : goal.returns
returns c =
    let text = c.args.text.now in
    let each = all_from_yields_List (λ part. is_pair (trim_spaces part)) _ _ c.all.result c.all.ensures.ran (YieldsList-from_slice_split _ is_comma text c.split.ensures.rest c.split.ensures.done c.split.ensures.closure (λ x b q k. search (rules, tests))) (λ x b q k. search (rules, tests)) in
    each ∙ sym (list_all-map is_pair trim_spaces (slice_split is_comma text))
