use Rattle.std.proofs.Common.{arith}
use Rattle.std.proofs.lemmas.Bool.Decides.{nat_tests}
use Rattle.tus_text.specs.Metadata.{is_value}
use Rattle.tus_text_tests.proofs.PlainValueLemmas.{decodes}
use Rattle.tus_text_tests.proofs.plain.metadata.is_value.Goals as goal

pub returns-then-is_empty : goal.returns-then-is_empty
unfolding is_value
returns-then-is_empty c = grind (arith, nat_tests)

pub returns : goal.returns
unfolding is_value
returns c =
    let decoded = decodes c.args.text.now c.is_base64.result (λ i. let fits = c.type_inv.text i in omega arith) c.is_base64.ensures in
    grind (arith, nat_tests)
