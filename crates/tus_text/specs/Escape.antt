-- Percent-encoding (RFC 3986, section 2.1) of the bytes that may not stand for themselves.
use Rattle.std.specs.Prelude.{ℕ, Bool, ◌+◌, ◌/◌, ◌%◌, List, [], ◌∷◌, flat_map, nat_lt, if◌then◌else◌}

-- 0 to 9, then A to F
abbrev pub hex_digit : ℕ → ℕ
hex_digit n = if nat_lt n 10 then 48 + n else 55 + n

-- a byte: itself where it may stand so, or else a percent sign and two digits
abbrev pub escape_unless : (ℕ → Bool) → ℕ → List ℕ
escape_unless is_plain b = if is_plain b then b ∷ [] else 37 ∷ hex_digit (b / 16) ∷ hex_digit (b % 16) ∷ []

abbrev pub escaped_unless : (ℕ → Bool) → List ℕ → List ℕ
escaped_unless is_plain text = flat_map (escape_unless is_plain) text
