use Rattle.std.proofs.Common.{arith}
use Rattle.tus_text_tests.proofs.PlainDateLemmas.{next-month, next-year, year-inside}
use Rattle.tus_text_tests.proofs.plain.date.next_day.Goals as goal

pub returns-then-month-lt12-clause-next : goal.returns-then-month-lt12-clause-next
returns-then-month-lt12-clause-next c =
    let today = c.args.today in
    next-month today.year today.month today.day c.requires.civil (omega arith)

pub returns-clause-next : goal.returns-clause-next
returns-clause-next c =
    let today = c.args.today in
    next-year today.year today.month today.day c.requires.civil (omega arith) (omega arith)

pub returns-clause-civil : goal.returns-clause-civil
returns-clause-civil c =
    let today = c.args.today in
    let next = returns-clause-next c in
    let inside = year-inside today.year c.requires.civil.0.1 (omega (arith, next, c.requires.last)) in
    omega arith
