-- The numbers of a second are those of the one date that has it.
use Rattle.std.proofs.Common.{◌≡◌, ℕ, zero, suc, ◌+◌, ◌-◌, ◌/◌, ◌<◌, ◌≤◌, Some, None, cond, refl, ap, sym, inl, inr, ◌∙◌, arith}
use Rattle.std.specs.Option.{option_and_then}
use Rattle.std.proofs.lemmas.Bool.{cases_lt, le-ltb, lt-ltb}
use Rattle.httpdate.specs.declared.date.HttpDate.{HttpDate}
use Rattle.httpdate.specs.Calendar.{days_in_year, days_in_month, days_of_years, days_of_months, weekday, IsCivilDate}
use Rattle.httpdate.specs.Valid.{IsValid, parts_secs}
use Rattle.httpdate.specs.Date.{unix_secs, date_text, valid_secs}
use Rattle.httpdate.proofs.CalendarLemmas.{days_of_years_closed, days_of_months_all, days_of_months_more}
use Rattle.httpdate.proofs.FormatLemmas.{parse_complete}
use Rattle.httpdate.proofs.ValidLemmas.{is_valid_complete}
use Rattle.httpdate.proofs.Theorems.{date_text_is}
use Rattle.tus_text.specs.Date.{span_of, year_of, month_of, date_parts, expires_text, expires_of}

-- A span and a place in it that stand for the day `total`, where `start k` days come before span k.
record IsPlace (size start : ℕ → ℕ) (first last total : ℕ) (place : ℕ × ℕ) : Type 0 where
  low : first ≤ place.0
  high : place.0 ≤ last
  within : place.1 < size place.0
  same : start place.0 + place.1 ≡ total

-- `span_of` gives such a place, where the spans up to first + more hold the day.
span_of-place : (size start : ℕ → ℕ) (more first days total : ℕ) → ((k : ℕ) → first ≤ k → start (k + 1) ≡ start k + size k) → start first + days ≡ total → total < start (first + more + 1) → IsPlace size start first (first + more) total (span_of size more first days)
unfolding span_of
span_of-place size start zero first days total next same inside =
    let begins = next first (omega arith) in
    let one : first + 0 + 1 ≡ first + 1 = omega arith in
    let before = rw one at inside in
    record { low = omega arith; high = omega arith; within = omega arith; same = same }
span_of-place size start (suc more) first days total next same inside =
    let begins = next first (omega arith) in
    let rest : size first ≤ days → start (first + 1) + (days - size first) ≡ total = λ passed. omega arith in
    let one : first + suc more + 1 ≡ first + 1 + more + 1 = omega arith in
    elim (cases_lt days (size first)) [
      | inl here ↦ rw (lt-ltb _ _ here) record { low = omega arith; high = omega arith; within = here; same = same }
      | inr passed ↦
          let place = span_of-place size start more (first + 1) (days - size first) total (λ k later. next k (omega arith)) (rest passed) (rw one at inside) in
          rw (le-ltb _ _ passed) record { low = omega (arith, place.low); high = omega (arith, place.high); within = place.within; same = place.same }
    ]

pub years_before-more : (year : ℕ) → 1970 ≤ year → days_of_years (year + 1 - 1970) ≡ days_of_years (year - 1970) + days_in_year year
unfolding days_of_years
years_before-more year late =
    let next : year + 1 - 1970 ≡ suc (year - 1970) = omega arith in
    let same : 1970 + (year - 1970) ≡ year = omega arith in
    rw (next, same) refl

year_of-place : (days : ℕ) → days < 2_932_897 → IsPlace days_in_year (λ year. days_of_years (year - 1970)) 1970 9999 days (year_of days)
unfolding days_of_years
year_of-place days inside =
    let last = days_of_years_closed 8030 in
    span_of-place days_in_year (λ year. days_of_years (year - 1970)) 8029 1970 days days years_before-more (omega arith) (omega arith)

pub months_before-more : (year month : ℕ) → 1 ≤ month → days_of_months year (month + 1 - 1) ≡ days_of_months year (month - 1) + days_in_month year month
months_before-more year month first =
    let same : month + 1 - 1 ≡ month = omega arith in
    rw same (days_of_months_more year month first)

pub months_before-none : (year : ℕ) → days_of_months year 0 ≡ 0
unfolding days_of_months
months_before-none year = refl

month_of-place : (year days : ℕ) → days < days_in_year year → IsPlace (days_in_month year) (λ month. days_of_months year (month - 1)) 1 12 days (month_of year days)
month_of-place year days inside =
    span_of-place (days_in_month year) (λ month. days_of_months year (month - 1)) 11 1 days days (months_before-more year)
    (omega (arith, months_before-none year)) (omega (arith, days_of_months_all year))

-- the second's date is valid, and it is of this second
pub date_parts-valid : (secs : ℕ) → secs ≤ 253_402_300_799 → IsValid (date_parts secs) × (parts_secs (date_parts secs) ≡ secs)
unfolding date_parts
date_parts-valid secs inside =
    let days = secs / 86400 in
    let year = year_of-place days (omega arith) in
    let month = month_of-place (year_of days).0 (year_of days).1 year.within in
    let same : days_of_years ((year_of days).0 - 1970) + days_of_months (year_of days).0 ((month_of (year_of days).0 (year_of days).1).0 - 1) + ((month_of (year_of days).0 (year_of days).1).1 + 1 - 1) ≡ days
    = omega (arith, year.same, month.same) in
    let civil : IsCivilDate (date_parts secs).year (date_parts secs).mon (date_parts secs).day
    = ((year.low, year.high), (month.low, month.high), (omega arith, omega (arith, month.within))) in
    ((civil, (omega arith, omega arith, omega arith), ap weekday (sym same)), rw same (omega arith))

-- the text of a date is that of its second
pub expires_text-date : (date : HttpDate) (secs : ℕ) → secs ≤ 253_402_300_799 → unix_secs date ≡ secs → date_text date ≡ expires_text secs
unfolding expires_text
expires_text-date date secs inside same =
    let parts = date_parts-valid secs inside in
    date_text_is date (date_parts secs) (is_valid_complete _ parts.0) (same ∙ sym parts.1)

-- and a date's text is read as its second
pub expires_of-date : (date : HttpDate) → expires_of (date_text date) ≡ Some (unix_secs date)
unfolding expires_of
expires_of-date date =
    let valid : IsValid date.parts = (date.civil, date.time, date.right_day) in
    ap (λ parts. option_and_then valid_secs parts) (parse_complete (date_text date) date.parts valid (inl refl))
    ∙ ap (λ passed. cond passed (Some (unix_secs date)) None) (is_valid_complete date.parts valid)
