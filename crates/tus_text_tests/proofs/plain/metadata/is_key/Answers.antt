use Rattle.std.proofs.Common.{not, rules, tests, arith}
use Rattle.std.proofs.lemmas.Bool.Decides.{nat_tests}
use Rattle.std.proofs.lemmas.Iterator.{YieldsList-from_slice}
use Rattle.std.proofs.lemmas.Iterator.Search.{all_from_yields_List}
use Rattle.tus_text.specs.Cut.{is_space}
use Rattle.tus_text_tests.proofs.plain.metadata.is_key.Goals as goal

pub returns : goal.returns
returns c =
    let text = c.args.text.now in
    let each = all_from_yields_List (λ b. not (is_space b)) _ _ c.all.result c.all.ensures.ran (YieldsList-from_slice text cc) (λ x b q k. search (rules, tests)) in
    grind (arith, nat_tests)
