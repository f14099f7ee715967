-- A number in a field or a path: `1*DIGIT` of RFC 9110 (section 8.6), of a value below 2^64. Leading
-- zeros are accepted; a sign or a space is not.
use Rattle.std.specs.Prelude.{ℕ, Bool, ◌&&◌, ◌^◌, List, length, nat_lt, Option, Some, None, if◌then◌else◌}
use Rattle.std.specs.Str.{all_ascii_digits}
use Rattle.std.specs.Str.Parse.{digits_value}

-- one or more digits, and nothing else
abbrev pub is_numeral : List ℕ → Bool
is_numeral text = nat_lt 0 (length text) && all_ascii_digits text

-- the number that the text writes in decimal, where it is a numeral and its value fits 64 bits
unfoldable pub number_of : List ℕ → Option ℕ
number_of text =
    if is_numeral text && nat_lt (digits_value 10 text) (2 ^ 64) then Some (digits_value 10 text)
    else None
