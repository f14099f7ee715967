use Rattle.std.proofs.Common.{◌∙◌, arith}
use Rattle.std.proofs.lemmas.Bool.Decides.{nat_tests}
use Rattle.tus_text.specs.Metadata.{is_value}
use Rattle.tus_text.proofs.MetadataLemmas.{decoded-ok}
use Rattle.tus_text.proofs.metadata.is_value.Goals as goal

pub returns-then-is_empty : goal.returns-then-is_empty
unfolding is_value
returns-then-is_empty c = grind (arith, nat_tests)

pub returns : goal.returns
unfolding is_value
returns c =
    let decoded = c.is_ok.ensures.value ∙ decoded-ok c.args.text.now _ _ c.decode_slice_unchecked.result c.decode_slice_unchecked.ensures.ok c.decode_slice_unchecked.ensures.err in
    grind (arith, nat_tests)
