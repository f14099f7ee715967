use Rattle.std.proofs.Common.{◌/◌, ◌%◌, ◌∙◌, refl, sym, ap, arith}
use Rattle.httpdate.specs.declared.parts.Parts.{Parts}
use Rattle.httpdate.specs.Calendar.{days_of_years, days_of_months, weekday}
use Rattle.tus_text_tests.proofs.PlainDateLemmas.{expires_text-parts}
use Rattle.tus_text_tests.proofs.plain.date.plain_expires.Goals as goal

pub loop-day-init : goal.loop-day-init
unfolding days_of_years days_of_months
loop-day-init c = record {
  civil = ((omega arith, omega arith), (omega arith, omega arith), (omega arith, omega arith));
  passed = refl;
  weekday = refl;
}

pub returns : goal.returns
returns c =
    let secs = c.args.secs in
    let today = c.loop-day.today in
    let seen = c.loop-day.invariant in
    let parts : Parts = record {
      year = today.year;
      mon = today.month;
      day = today.day;
      hour = secs % 86400 / 3600;
      min = secs % 86400 % 3600 / 60;
      sec = secs % 86400 % 60;
      wday = today.weekday;
    } in
    let right_day = seen.weekday ∙ ap weekday (sym seen.passed) in
    c.print_date.ensures ∙ expires_text-parts parts secs (omega arith) (seen.civil, (omega arith, omega arith, omega arith), right_day) (omega arith)
