use Rattle.std.proofs.Common.{◌≡◌}
use Rattle.httpdate.specs.Calendar.{IsCivilDate, days_from_civil, weekday}
use Rattle.tus_text_tests.proofs.plain.date.plain_expires.Given as goal

-- today is the day after as many days as have passed
abbrev pub invariant-loop-day : goal.invariant-loop-day
invariant-loop-day l = record {
  civil : IsCivilDate l.today.year l.today.month l.today.day;
  passed : days_from_civil l.today.year l.today.month l.today.day ≡ l._day;
  weekday : l.today.weekday ≡ weekday l._day;
}
