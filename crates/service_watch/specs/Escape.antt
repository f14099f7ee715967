-- Text from outside, escaped by percent signs (RFC 3986, section 2.1), so that it is one word of printable ASCII.
use Rattle.std.specs.Prelude.{ℕ, Bool, not, ◌&&◌, ◌==◌, List, [], ◌∷◌, nat_le}
use Rattle.tus_text.specs.Escape.{escaped_unless}

-- a byte that stands for itself: printable ASCII, but no space, percent sign, quote or backslash
abbrev pub is_plain : ℕ → Bool
is_plain b = nat_le 33 b && nat_le b 126 && not (b == 34) && not (b == 37) && not (b == 92)

unfoldable pub escaped : List ℕ → List ℕ
escaped text = escaped_unless is_plain text

-- a text from outside; a hyphen where there is none
unfoldable pub shown : List ℕ → List ℕ
shown [] = 45 ∷ []
shown (b ∷ text) = escaped (b ∷ text)
