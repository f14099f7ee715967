-- Seconds, written exactly from microseconds, with no zero at the end: `0.0005`, `2.5`, `10`.
use Rattle.std.specs.Prelude.{ℕ, ◌+◌, ◌/◌, ◌%◌, ◌==◌, List, [], ◌∷◌, ◌++◌, take, decimal, if◌then◌else◌}

-- six digits of a number below a million
unfoldable pub six_digits : ℕ → List ℕ
six_digits n =
    (48 + n / 100000) ∷ (48 + n / 10000 % 10) ∷ (48 + n / 1000 % 10) ∷ (48 + n / 100 % 10) ∷ (48 + n / 10 % 10) ∷ (48 + n % 10) ∷ []

-- how many of them stand before the zeros at the end
abbrev pub digits_told : ℕ → ℕ
digits_told n =
    if n % 100000 == 0 then 1
    else if n % 10000 == 0 then 2
    else if n % 1000 == 0 then 3
    else if n % 100 == 0 then 4
    else if n % 10 == 0 then 5
    else 6

-- the part behind the point, of so many millionths
unfoldable pub fraction : ℕ → List ℕ
fraction n = if n == 0 then [] else 46 ∷ take (digits_told n) (six_digits n)

unfoldable pub seconds_text : ℕ → List ℕ
seconds_text micros = decimal (micros / 1000000) ++ fraction (micros % 1000000)
