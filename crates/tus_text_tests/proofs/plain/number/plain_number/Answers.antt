use Rattle.std.proofs.Common.{sym, ◌∙◌, arith}
use Rattle.std.proofs.lemmas.Bool.Decides.{nat_tests}
use Rattle.tus_text_tests.proofs.PlainLemmas.{number_of-other_text, number_of-plus, parse-number}
use Rattle.tus_text_tests.proofs.plain.number.plain_number.Goals as goal

pub returns-then-is_empty : goal.returns-then-is_empty
returns-then-is_empty c = sym (number_of-plus c.args.text.now (λ some. grind (arith, nat_tests)))

pub returns-in-Ok : goal.returns-in-Ok
returns-in-Ok c =
    let text = c.args.text.now in
    let parsed = rw c.in-Ok.ensures.cases.0 at c.parse.ensures.value.0 in
    c.ok.ensures.value ∙ parse-number text c.parse.result parsed (λ plus. grind (arith, nat_tests))

pub returns-in-Err : goal.returns-in-Err
returns-in-Err c = sym (number_of-other_text c.args.text.now c.in-Err.ensures.cases.0)
