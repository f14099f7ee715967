use Rattle.std.proofs.Common.{◌∙◌, sym, ap}
use Rattle.std.specs.List.{after_first}
use Rattle.std.specs.Prelude.{option_and_then, option_map}
use Rattle.tus_text.specs.Cut.{is_space, trim_spaces}
use Rattle.tus_text.specs.Pair.{decoded, value_of}
use Rattle.tus_text.proofs.pair.value_under.Goals as goal

pub returns : goal.returns
returns c =
    c.decoded.ensures
    ∙ ap decoded (c.split_at_first.ensures.after ∙ ap (after_first is_space) c.trim_spaces.ensures)
    ∙ ap (option_and_then value_of) (ap (option_map (λ part. trim_spaces part.now)) (sym c.in_ok-part.was) ∙ c.part_under.ensures)
