-- The value of Range with one range of bytes (RFC 9110, sections 14.1, 14.1.1 and 14.2). The name of the unit stands in any
-- letter case. No other value tells a range: several ranges, another unit, spaces, a last place before the first.
use Rattle.std.specs.Prelude.{ℕ, Bool, ◌==◌, nat_le, nat_lt, List, [], ◌∷◌, length, take, drop, codes, Option, Some, None, option_and_then, option_map, if◌then◌else◌}
use Rattle.std.specs.List.{before_first, after_first}
use Rattle.std.specs.Str.{byte, str_eq_ignore_ascii_case}
use Rattle.tus_text.specs.Number.{number_of}
use Rattle.tus_text.specs.declared.range.ByteRange.{ByteRange}
use Rattle.tus_text.specs.declared.range.ByteRange.TheVariants.{Between, From, Last}

abbrev pub is_hyphen : ℕ → Bool
is_hyphen b = b == byte "-"

-- from the first place to the last, which isn't before it
abbrev pub between : ℕ → ℕ → Option ByteRange
between first last = if nat_le first last then Some (Between first last) else None

-- int-range = first-pos "-" [ last-pos ], and suffix-range = "-" suffix-length, by what stands before the hyphen and behind it
abbrev pub range_by : List ℕ → List ℕ → Option ByteRange
range_by [] last = option_map Last (number_of last)
range_by (b ∷ first) [] = option_map From (number_of (b ∷ first))
range_by (b ∷ first) (c ∷ last) = option_and_then (λ n. option_and_then (between n) (number_of (c ∷ last))) (number_of (b ∷ first))

-- the range of a text with a hyphen
abbrev pub range_spec : List ℕ → Option ByteRange
range_spec text =
    let first = before_first is_hyphen text in
    if nat_lt (length first) (length text) then range_by first (after_first is_hyphen text) else None

-- the unit `bytes`, an equals sign, and one range
abbrev pub byte_range_of : List ℕ → Option ByteRange
byte_range_of text =
    if str_eq_ignore_ascii_case (take 6 text) (codes "bytes=") then range_spec (drop 6 text) else None
