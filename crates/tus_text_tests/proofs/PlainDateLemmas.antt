-- What the plain program of dates stands on: the day after a day, and the one text of a second.
use Rattle.std.proofs.Common.{◌≡◌, ℕ, ◌+◌, ◌-◌, ◌<◌, ◌≤◌, inl, inr, sym, ap, ◌∙◌, arith}
use Rattle.std.proofs.lemmas.Bool.{cases_lt}
use Rattle.httpdate.specs.declared.parts.Parts.{Parts}
use Rattle.httpdate.specs.Calendar.{IsCivilDate, days_from_civil, days_in_month}
use Rattle.httpdate.specs.Text.{imf_fixdate}
use Rattle.httpdate.specs.Valid.{IsValid, parts_secs}
use Rattle.httpdate.proofs.CalendarLemmas.{days_of_years_closed, days_of_months_all}
use Rattle.httpdate.proofs.Theorems.{unix_secs_injective}
use Rattle.tus_text.specs.Date.{date_parts, expires_text}
use Rattle.tus_text.proofs.DateLemmas.{years_before-more, months_before-more, months_before-none, date_parts-valid}

-- after a month's last day
pub next-month : (year month day : ℕ) → IsCivilDate year month day → days_in_month year month ≤ day → days_from_civil year (month + 1) 1 ≡ days_from_civil year month day + 1
next-month year month day civil last =
    let more = months_before-more year month (omega arith) in
    omega arith

-- after a year's last day
pub next-year : (year month day : ℕ) → IsCivilDate year month day → 12 ≤ month → days_in_month year month ≤ day → days_from_civil (year + 1) 1 1 ≡ days_from_civil year month day + 1
next-year year month day civil late last =
    let december : month ≡ 12 = omega arith in
    let more = months_before-more year 12 (omega arith) in
    let all = days_of_months_all year in
    let none = months_before-none (year + 1) in
    let years = years_before-more year (omega arith) in
    let low = rw december at last in
    let high = rw december at civil.2.1 in
    rw december (omega arith)

-- a day before the year 10000
pub year-inside : (year : ℕ) → year ≤ 9999 → days_from_civil (year + 1) 1 1 < 2_932_897 → year + 1 ≤ 9999
year-inside year known inside = elim (cases_lt year 9999) [
  | inl before ↦ omega arith
  | inr late ↦
      let last : year + 1 - 1970 ≡ 8030 = omega arith in
      let all = days_of_years_closed 8030 in
      let past = rw last at inside in
      absurd (omega arith)
]

-- two valid sets of numbers with one second are the same
same_parts : (p q : Parts) → IsValid p → IsValid q → parts_secs p ≡ parts_secs q → p ≡ q
same_parts p q first second same =
    unix_secs_injective (record { parts = p; civil = first.0; time = first.1; right_day = first.2 })
    (record { parts = q; civil = second.0; time = second.1; right_day = second.2 }) same

pub expires_text-parts : (p : Parts) (secs : ℕ) → secs ≤ 253_402_300_799 → IsValid p → parts_secs p ≡ secs → imf_fixdate p ≡ expires_text secs
unfolding expires_text
expires_text-parts p secs inside valid same =
    let parts = date_parts-valid secs inside in
    ap imf_fixdate (same_parts p (date_parts secs) valid parts.0 (same ∙ sym parts.1))
