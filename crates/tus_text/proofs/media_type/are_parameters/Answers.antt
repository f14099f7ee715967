use Rattle.std.proofs.Common.{rules, tests}
use Rattle.std.proofs.lemmas.Iterator.Search.{all_from_yields_List}
use Rattle.std.proofs.lemmas.Iterator.Splits.{YieldsList-from_slice_split}
use Rattle.tus_text.specs.Cut.{trim_spaces}
use Rattle.tus_text.specs.MediaType.{is_parameter, is_semicolon}
use Rattle.tus_text.proofs.media_type.are_parameters.Goals as goal

pub returns : goal.returns
returns c =
    let text = c.args.text.now in
    all_from_yields_List (λ part. is_parameter (trim_spaces part)) _ _ c.all.result c.all.ensures.ran (YieldsList-from_slice_split _ is_semicolon text c.split.ensures.rest c.split.ensures.done c.split.ensures.closure (λ x b q k. search (rules, tests))) (λ x b q k. search (rules, tests))
