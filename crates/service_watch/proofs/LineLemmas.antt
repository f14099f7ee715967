-- Each line of a log is one line of printable ASCII, with so many spaces.
use Rattle.std.proofs.Common.{◌≡◌, ℕ, zero, suc, ◌+◌, ◌-◌, ◌/◌, ◌%◌, ◌<◌, ◌≤◌, ◌^◌, ◌==◌, Bool, true, false, ◌&&◌, ◌||◌, cond, not, nat_le, List, [], ◌∷◌, ◌++◌, All, count_by, Option, Some, None, IfSome, codes, decimal, refl, ap, ap₂, ◌∙◌, zero-add, slice_index_or, arith}
use Rattle.std.specs.List.{flat_map, list_all}
use Rattle.std.proofs.lemmas.Bool.{and_parts}
use Rattle.std.proofs.lemmas.List.Elements.{All-nil, All-cons, All-append, All-head, All-tail}
use Rattle.std.proofs.lemmas.List.Sums.{sum_by-append, sum_by-cons}
use Rattle.std.proofs.lemmas.Bool.Decides.{nat_tests}
use Rattle.std.proofs.lemmas.Fmt.{decimal_by_steps}
use Rattle.tus_text.specs.Date.{date_parts, expires_text}
use Rattle.tus_text.proofs.DateLemmas.{date_parts-valid}
use Rattle.service_watch.specs.Escape.{escaped, is_plain, shown}
use Rattle.tus_text.specs.Escape.{escape_unless, escaped_unless, hex_digit}
use Rattle.tus_steps.specs.declared.method.Method.TheVariants as method
use Rattle.service_watch.specs.CutLine.{CutLine}
use Rattle.service_watch.specs.Laws.{AreBytes, FitsCut, FitsRequest, IsOneLine}
use Rattle.service_watch.specs.Line.{answer, cut_name, cut_text, date, method_name, method_word, question, request_text, sent_word, status_word, word}
use Rattle.service_watch.specs.RequestLine.{RequestLine}
use Rattle.service_watch.specs.declared.cut.Cut.{Cut}
use Rattle.service_watch.specs.declared.cut.Cut.TheVariants as cut
use Rattle.tus_steps.specs.declared.method.Method.{Method}
use Rattle.httpdate.specs.declared.parts.Parts.{Parts}
use Rattle.httpdate.specs.Calendar.{days_in_month, is_leap_year}
use Rattle.httpdate.specs.Text.{day_name, four_digits, imf_fixdate, month_name, time_of_day, two_digits}
use Rattle.httpdate.specs.Valid.{IsValid}

-- printable ASCII
abbrev pub IsPrintable : ℕ → Type 0
IsPrintable b = (32 ≤ b) × (b ≤ 126)

-- printable ASCII with so many spaces
pub record IsParted (n : ℕ) (text : List ℕ) : Type 0 where
  pub printable : All IsPrintable text
  pub parted : count_by (λ b. b == 32) text ≡ n

pub parted-nil : IsParted 0 []
parted-nil = record { printable = All-nil IsPrintable; parted = refl }

pub parted-visible : (b n : ℕ) (text : List ℕ) → 33 ≤ b → b ≤ 126 → IsParted n text → IsParted n (b ∷ text)
parted-visible b n text low high rest =
    let other : (b == 32) ≡ false = grind (arith, nat_tests) in
    record {
      printable = All-cons IsPrintable b text (omega arith, high) rest.printable;
      parted = rw other (rw zero-add rest.parted);
    }

pub parted-space : (n : ℕ) (text : List ℕ) → IsParted n text → IsParted (1 + n) (32 ∷ text)
parted-space n text rest = record {
  printable = All-cons IsPrintable 32 text (omega arith, omega arith) rest.printable;
  parted = sum_by-cons (λ (b : ℕ). cond (b == 32) 1 0) 32 text ∙ ap (λ (k : ℕ). 1 + k) rest.parted;
}

pub parted-append : (m n : ℕ) (xs ys : List ℕ) → IsParted m xs → IsParted n ys → IsParted (m + n) (xs ++ ys)
parted-append m n xs ys first rest =
    let counted = sum_by-append (λ (b : ℕ). cond (b == 32) 1 0) xs ys in
    record {
      printable = All-append IsPrintable xs ys first.printable rest.printable;
      parted = counted ∙ ap₂ (λ (a b : ℕ). a + b) first.parted rest.parted;
    }

-- printable ASCII and no space
abbrev pub is_visible : ℕ → Bool
is_visible b = nat_le 33 b && nat_le b 126

-- a text that computes
pub parted-text : (text : List ℕ) → list_all is_visible text ≡ true → IsParted 0 text
parted-text [] h = parted-nil
parted-text (b ∷ text) h =
    let parts = and_parts (is_visible b) (list_all is_visible text) h in
    let here = and_parts (nat_le 33 b) (nat_le b 126) parts.0 in
    let low : 33 ≤ b = grind (arith, nat_tests, here.0) in
    let high : b ≤ 126 = grind (arith, nat_tests, here.1) in
    parted-visible b 0 text low high (parted-text text parts.1)

-- a text of a table, or none
pub parted-row : (rows : List (List ℕ)) (i : ℕ) → list_all (list_all is_visible) rows ≡ true → IsParted 0 (slice_index_or rows i [])
parted-row [] i h = parted-nil
parted-row (row ∷ rows) zero h = parted-text row (and_parts (list_all is_visible row) (list_all (list_all is_visible) rows) h).0
parted-row (row ∷ rows) (suc i) h =
    parted-row rows i (and_parts (list_all is_visible row) (list_all (list_all is_visible) rows) h).1

-- ---- numbers

digit-parted : (n : ℕ) → n < 10 → IsParted 0 ((48 + n) ∷ [])
digit-parted n h = parted-visible (48 + n) 0 [] (omega arith) (omega arith) parted-nil

pub parted-decimal : (n : ℕ) → n < 2 ^ 64 → IsParted 0 (decimal n)
parted-decimal n fits =
    decimal_by_steps (λ (m : ℕ) (text : List ℕ). IsParted 0 text) digit-parted
    (λ (m : ℕ) (text : List ℕ) above rest. parted-append 0 0 text ((48 + m % 10) ∷ []) rest (digit-parted (m % 10) (omega arith))) n fits

-- ---- text from outside

hex-low : (n : ℕ) → n < 16 → 33 ≤ hex_digit n
hex-low n h = grind (arith, nat_tests)

hex-high : (n : ℕ) → n < 16 → hex_digit n ≤ 126
hex-high n h = grind (arith, nat_tests)

escape-plain : (b : ℕ) → is_plain b ≡ true → IsParted 0 (b ∷ [])
escape-plain b h =
    let first = and_parts (nat_le 33 b && nat_le b 126 && not (b == 34) && not (b == 37)) (not (b == 92)) h in
    let second = and_parts (nat_le 33 b && nat_le b 126 && not (b == 34)) (not (b == 37)) first.0 in
    let third = and_parts (nat_le 33 b && nat_le b 126) (not (b == 34)) second.0 in
    let last = and_parts (nat_le 33 b) (nat_le b 126) third.0 in
    let low : 33 ≤ b = grind (arith, nat_tests, last.0) in
    let high : b ≤ 126 = grind (arith, nat_tests, last.1) in
    parted-visible b 0 [] low high parted-nil

parted-escape : (b : ℕ) → b < 256 → IsParted 0 (escape_unless is_plain b)
parted-escape b fits = parted-escape_by (is_plain b) refl
  where
    parted-escape_by : (plain : Bool) → is_plain b ≡ plain → IsParted 0 (escape_unless is_plain b)
    parted-escape_by true h = rw h (escape-plain b h)
    parted-escape_by false h =
        rw h
        (parted-visible 37 0 (hex_digit (b / 16) ∷ hex_digit (b % 16) ∷ []) (omega arith) (omega arith)
        (parted-visible (hex_digit (b / 16)) 0 (hex_digit (b % 16) ∷ []) (hex-low (b / 16) (omega arith)) (hex-high (b / 16) (omega arith))
        (parted-visible (hex_digit (b % 16)) 0 [] (hex-low (b % 16) (omega arith)) (hex-high (b % 16) (omega arith)) parted-nil)))

pub parted-escaped : (text : List ℕ) → AreBytes text → IsParted 0 (escaped text)
unfolding escaped
parted-escaped [] h = parted-nil
parted-escaped (b ∷ text) h =
    parted-append 0 0 (escape_unless is_plain b) (escaped_unless is_plain text) (parted-escape b (All-head (λ (x : ℕ). x < 256) b text h))
    (parted-escaped text (All-tail (λ (x : ℕ). x < 256) b text h))

pub parted-shown : (text : List ℕ) → AreBytes text → IsParted 0 (shown text)
unfolding shown
parted-shown [] h = parted-text (45 ∷ []) refl
parted-shown (b ∷ text) h = parted-escaped (b ∷ text) h

-- ---- dates

two-parted : (n : ℕ) → n < 100 → IsParted 0 (two_digits n)
two-parted n h =
    parted-visible (48 + n / 10) 0 ((48 + n % 10) ∷ []) (omega arith) (omega arith)
    (parted-visible (48 + n % 10) 0 [] (omega arith) (omega arith) parted-nil)

four-parted : (n : ℕ) → n < 10000 → IsParted 0 (four_digits n)
four-parted n h = parted-append 0 0 (two_digits (n / 100)) (two_digits (n % 100)) (two-parted (n / 100) (omega arith)) (two-parted (n % 100) (omega arith))

cond-short : (test : Bool) (a b most : ℕ) → a ≤ most → b ≤ most → cond test a b ≤ most
cond-short true a b most first other = first
cond-short false a b most first other = other

month-short : (y m : ℕ) → days_in_month y m ≤ 31
month-short y m =
    cond-short (m == 2) _ _ 31 (cond-short (is_leap_year y) 29 28 31 (omega arith) (omega arith))
    (cond-short ((m == 4) || (m == 6) || (m == 9) || (m == 11)) 30 31 31 (omega arith) (omega arith))

abbrev days : List (List ℕ)
days = codes "Mon" ∷ codes "Tue" ∷ codes "Wed" ∷ codes "Thu" ∷ codes "Fri" ∷ codes "Sat" ∷ codes "Sun" ∷ []

abbrev months : List (List ℕ)
months =
    codes "Jan" ∷ codes "Feb" ∷ codes "Mar" ∷ codes "Apr" ∷ codes "May" ∷ codes "Jun" ∷ codes "Jul" ∷ codes "Aug" ∷ codes "Sep"
    ∷ codes "Oct" ∷ codes "Nov" ∷ codes "Dec" ∷ []

-- a space, and one behind a comma
space-parted : IsParted 1 (codes " ")
space-parted = parted-space 0 [] parted-nil

comma-parted : IsParted 1 (codes ", ")
comma-parted = parted-visible 44 1 (32 ∷ []) (omega arith) (omega arith) space-parted

colon-parted : IsParted 0 (codes ":")
colon-parted = parted-text (58 ∷ []) refl

zone-parted : IsParted 1 (codes " GMT")
zone-parted = parted-space 0 (71 ∷ 77 ∷ 84 ∷ []) (parted-text (71 ∷ 77 ∷ 84 ∷ []) refl)

time-parted : (p : Parts) → IsValid p → IsParted 0 (time_of_day p)
time-parted p valid =
    let hour = two-parted p.hour (omega (arith, valid.1)) in
    let minute = two-parted p.min (omega (arith, valid.1)) in
    let second = two-parted p.sec (omega (arith, valid.1)) in
    parted-append 0 0 _ (two_digits p.sec)
    (parted-append 0 0 _ (codes ":")
    (parted-append 0 0 _ (two_digits p.min)
    (parted-append 0 0 (two_digits p.hour) (codes ":") hour colon-parted) minute) colon-parted) second

day-parted : (p : Parts) → IsValid p → IsParted 2 (day_name p.wday ++ codes ", " ++ two_digits p.day ++ codes " ")
day-parted p valid =
    let short = month-short p.year p.mon in
    let day = two-parted p.day (omega (arith, valid.0, short)) in
    parted-append 1 1 _ (codes " ")
    (parted-append 1 0 _ (two_digits p.day)
    (parted-append 0 1 (day_name p.wday) (codes ", ") (parted-row days (p.wday - 1) refl) comma-parted) day) space-parted

-- the texts of a date behind one another
date-parted : (p : Parts) → IsValid p → IsParted 5 (imf_fixdate p)
date-parted p valid =
    let year = four-parted p.year (omega (arith, valid.0)) in
    parted-append 4 1 _ (codes " GMT")
    (parted-append 4 0 _ (time_of_day p)
    (parted-append 3 1 _ (codes " ")
    (parted-append 3 0 _ (four_digits p.year)
    (parted-append 2 1 _ (codes " ")
    (parted-append 2 0 _ (month_name p.mon) (day-parted p valid) (parted-row months (p.mon - 1) refl)) space-parted) year) space-parted)
    (time-parted p valid)) zone-parted

pub parted-date : (moment : ℕ) → moment ≤ 253402300799 → IsParted 5 (date moment)
unfolding date expires_text
parted-date moment h =
    let told = date-parted (date_parts moment) (date_parts-valid moment h).0 in
    parted-visible 34 5 (imf_fixdate (date_parts moment) ++ 34 ∷ []) (omega arith) (omega arith)
    (parted-append 5 0 (imf_fixdate (date_parts moment)) (34 ∷ []) told (parted-text (34 ∷ []) refl))

-- ---- words

pub parted-word : (n : ℕ) (text : List ℕ) → IsParted n text → IsParted (1 + n) (word text)
unfolding word
parted-word n text h = parted-space n text h

pub parted-method : (m : Option Method) → IsParted 0 (method_word m)
parted-method None = parted-text (45 ∷ []) refl
parted-method (Some method.Post) = parted-text (method_name method.Post) refl
parted-method (Some method.Head) = parted-text (method_name method.Head) refl
parted-method (Some method.Get) = parted-text (method_name method.Get) refl
parted-method (Some method.Patch) = parted-text (method_name method.Patch) refl
parted-method (Some method.Delete) = parted-text (method_name method.Delete) refl
parted-method (Some method.Options) = parted-text (method_name method.Options) refl
parted-method (Some method.Other) = parted-text (method_name method.Other) refl

pub parted-cut : (why : Cut) → IsParted 0 (cut_name why)
parted-cut cut.Idle = parted-text (cut_name cut.Idle) refl
parted-cut cut.Message = parted-text (cut_name cut.Message) refl
parted-cut cut.Rate = parted-text (cut_name cut.Rate) refl
parted-cut cut.Memory = parted-text (cut_name cut.Memory) refl
parted-cut cut.Newer = parted-text (cut_name cut.Newer) refl
parted-cut cut.Failed = parted-text (cut_name cut.Failed) refl
parted-cut cut.Stopped = parted-text (cut_name cut.Stopped) refl

parted-status : (status : Option ℕ) → IfSome status (λ n. n < 2 ^ 64) → IsParted 0 (status_word status)
parted-status None h = parted-text (45 ∷ []) refl
parted-status (Some n) h = parted-decimal n h

parted-sent : (was_sent : Bool) → IsParted 0 (sent_word was_sent)
parted-sent true = parted-text (sent_word true) refl
parted-sent false = parted-text (sent_word false) refl

-- ---- lines

parted-question : (l : RequestLine) → FitsRequest l → IsParted 4 (question l)
unfolding question
parted-question l fits =
    parted-append 3 1 _ (word (shown l.path))
    (parted-append 2 1 _ (word (method_word l.method))
    (parted-append 1 1 (word (shown l.peer)) (word (shown l.tenant)) (parted-word 0 _ (parted-shown l.peer fits.peer))
    (parted-word 0 _ (parted-shown l.tenant fits.tenant))) (parted-word 0 _ (parted-method l.method)))
    (parted-word 0 _ (parted-shown l.path fits.path))

parted-answer : (l : RequestLine) → FitsRequest l → IsParted 6 (answer l)
unfolding answer
parted-answer l fits =
    parted-append 5 1 _ (word (sent_word l.was_sent))
    (parted-append 4 1 _ (word (decimal l.micros))
    (parted-append 3 1 _ (word (decimal l.sent))
    (parted-append 2 1 _ (word (decimal l.received))
    (parted-append 1 1 (word (status_word l.status)) (word (shown l.word)) (parted-word 0 _ (parted-status l.status fits.status))
    (parted-word 0 _ (parted-shown l.word fits.word))) (parted-word 0 _ (parted-decimal l.received fits.received)))
    (parted-word 0 _ (parted-decimal l.sent fits.sent))) (parted-word 0 _ (parted-decimal l.micros fits.micros)))
    (parted-word 0 _ (parted-sent l.was_sent))

ends-line : (n : ℕ) (front : List ℕ) → IsParted n front → IsOneLine n (front ++ 10 ∷ [])
ends-line n front h = record { front = front; ends = refl; printable = h.printable; parted = h.parted }

pub request-one_line : (l : RequestLine) → FitsRequest l → IsOneLine 15 (request_text l)
unfolding request_text
request-one_line l fits =
    ends-line 15 _
    (parted-append 9 6 _ (answer l)
    (parted-append 5 4 (date l.moment) (question l) (parted-date l.moment fits.moment) (parted-question l fits)) (parted-answer l fits))

pub cut-one_line : (l : CutLine) → FitsCut l → IsOneLine 8 (cut_text l)
unfolding cut_text
cut-one_line l fits =
    ends-line 8 _
    (parted-append 7 1 _ (word (cut_name l.cut))
    (parted-append 6 1 _ (word (codes "cut"))
    (parted-append 5 1 (date l.moment) (word (shown l.peer)) (parted-date l.moment fits.moment) (parted-word 0 _ (parted-shown l.peer fits.peer)))
    (parted-word 0 _ (parted-text (codes "cut") refl))) (parted-word 0 _ (parted-cut l.cut)))
