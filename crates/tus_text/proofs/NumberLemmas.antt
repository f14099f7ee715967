-- What settles `number_of`: a whole numeral, a byte that is no digit, or a front that is too large.
use Rattle.std.proofs.Common.{◌≡◌, ℕ, ◌<◌, ◌≤◌, ◌^◌, true, List, [], length, get_or, take, Some, None, refl, arith}
use Rattle.std.specs.Int.{IsInRange}
use Rattle.std.specs.Str.{all_ascii_digits}
use Rattle.std.specs.Str.Parse.{AllDigits, digits_value}
use Rattle.std.proofs.lemmas.Bool.{and_parts, ltb-true}
use Rattle.std.proofs.lemmas.Bool.Decides.{nat_tests}
use Rattle.std.proofs.lemmas.Option.{cond_some}
use Rattle.std.proofs.lemmas.Str.Parse.{IsNumeralModel, numerals_by_value, tells_all_ascii_digits, digit_at, digits_value-take-le}
use Rattle.tus_text.specs.Number.{number_of}

pub numerals : IsNumeralModel (λ text. all_ascii_digits text ≡ true) (digits_value 10)
numerals = numerals_by_value _ tells_all_ascii_digits

pub number_of-empty : number_of [] ≡ None
unfolding number_of
number_of-empty = refl

pub number_of-numeral : (text : List ℕ) → 0 < length text → all_ascii_digits text ≡ true → digits_value 10 text < 2 ^ 64 → number_of text ≡ Some (digits_value 10 text)
unfolding number_of
number_of-numeral text some digits fits = grind (arith, nat_tests)

pub number_of-digits : (text : List ℕ) → AllDigits 10 text → 0 < length text → digits_value 10 text < 2 ^ 64 → number_of text ≡ Some (digits_value 10 text)
number_of-digits text digits some fits = number_of-numeral text some (numerals.from text digits) fits

-- what a text with a number is
pub record IsNumber (text : List ℕ) : Type 0 where
  pub some : 0 < length text
  pub digits : all_ascii_digits text ≡ true
  pub fits : digits_value 10 text < 2 ^ 64

pub number_of-some : (text : List ℕ) (n : ℕ) → number_of text ≡ Some n → IsNumber text
unfolding number_of
number_of-some text n is =
    let tests = and_parts _ _ (cond_some _ _ _ is).0 in
    let numeral = and_parts _ _ tests.0 in
    record { some = ltb-true _ _ numeral.0; digits = numeral.1; fits = ltb-true _ _ tests.1 }

pub number_of-other_byte : (text : List ℕ) (i : ℕ) → i < length text → (IsInRange 48 57 (get_or text i 0) → ⊥) → number_of text ≡ None
unfolding number_of
number_of-other_byte text i within other =
    let never : all_ascii_digits text ≡ true → ⊥ = λ digits. other (digit_at text i (numerals.to text digits) within) in
    grind (arith, nat_tests)

pub number_of-large : (text : List ℕ) (i : ℕ) → 2 ^ 64 ≤ digits_value 10 (take i text) → number_of text ≡ None
unfolding number_of
number_of-large text i large =
    let front = digits_value-take-le 10 text i (omega arith) in
    grind (arith, nat_tests)
