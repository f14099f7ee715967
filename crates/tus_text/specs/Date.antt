-- The IMF-fixdate of a second since 1970 (RFC 9110, section 5.6.7), up to the end of the year 9999,
-- as `Fri, 31 Dec 9999 23:59:59 GMT`, and the second of a date. The formats, the calendar and the
-- reading of a date are httpdate's words.
use Rattle.std.specs.Prelude.{ℕ, zero, suc, ◌+◌, ◌-◌, ◌/◌, ◌%◌, List, Option, nat_lt, if◌then◌else◌}
use Rattle.httpdate.specs.declared.parts.Parts.{Parts}
use Rattle.httpdate.specs.Date.{parse_secs}
use Rattle.httpdate.specs.Calendar.{days_in_year, days_in_month, weekday}
use Rattle.httpdate.specs.Text.{imf_fixdate}

-- The span (a year, or a month of one) that a day lies in, and how many days of that span come before
-- it. Span k has `size k` days; the day is the one after `days` days from the start of span `first`; at
-- most `more` spans are passed.
unfoldable pub span_of : (ℕ → ℕ) → ℕ → ℕ → ℕ → ℕ × ℕ
span_of size zero first days = (first, days)
span_of size (suc more) first days =
    if nat_lt days (size first) then (first, days)
    else span_of size more (first + 1) (days - size first)

-- the year of a day since 1970, at most 9999, and how many days of the year come before it
abbrev pub year_of : ℕ → ℕ × ℕ
year_of days = span_of days_in_year 8029 1970 days

-- the month of a day of the year, and how many days of the month come before it
abbrev pub month_of : ℕ → ℕ → ℕ × ℕ
month_of year days = span_of (days_in_month year) 11 1 days

-- the calendar's and the clock's numbers of a second
unfoldable pub date_parts : ℕ → Parts
date_parts secs =
    let days = secs / 86400 in
    let year = year_of days in
    let month = month_of year.0 year.1 in
    record {
      year = year.0;
      mon = month.0;
      day = month.1 + 1;
      hour = secs % 86400 / 3600;
      min = secs % 3600 / 60;
      sec = secs % 60;
      wday = weekday days;
    }

-- the text of the second
unfoldable pub expires_text : ℕ → List ℕ
expires_text secs = imf_fixdate (date_parts secs)

-- the second of the date that the text shows, in any of the three formats of HTTP
unfoldable pub expires_of : List ℕ → Option ℕ
expires_of text = parse_secs text
