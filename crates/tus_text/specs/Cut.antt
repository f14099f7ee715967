-- Spaces at the ends of a text: the byte 32 alone, and no tab.
use Rattle.std.specs.Prelude.{ℕ, Bool, ◌==◌, List, [], ◌∷◌, reverse, if◌then◌else◌}
use Rattle.std.specs.Str.{byte}

abbrev pub is_space : ℕ → Bool
is_space b = b == byte " "

-- the bytes from the first that is no space
abbrev pub skip_spaces : List ℕ → List ℕ
skip_spaces [] = []
skip_spaces (b ∷ bytes) = if is_space b then skip_spaces bytes else b ∷ bytes

-- the bytes without the spaces at both ends
unfoldable pub trim_spaces : List ℕ → List ℕ
trim_spaces bytes = reverse (skip_spaces (reverse (skip_spaces bytes)))
