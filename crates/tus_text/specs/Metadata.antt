-- The value of Upload-Metadata (tus 1.0.0, creation): pairs between commas, spaces round a pair left
-- out. A pair is a key, or a key, one space and a value in Base64 (RFC 4648, section 4), padded. No
-- two keys are equal.
use Rattle.std.specs.Prelude.{ℕ, Bool, true, not, ◌&&◌, ◌||◌, ◌==◌, List, [], ◌∷◌, length, map, nat_lt, nat_le, is_ok, bytes_eq}
use Rattle.std.specs.List.{list_all, list_any, slice_split, before_first, after_first}
use Rattle.std.specs.Str.{byte}
use Rattle.base64.specs.Engines.{standard}
use Rattle.base64.specs.GeneralPurpose.{decode_of}
use Rattle.tus_text.specs.Cut.{is_space, trim_spaces}

abbrev pub is_comma : ℕ → Bool
is_comma b = b == byte ","

-- the pairs, in order
abbrev pub pairs_of : List ℕ → List (List ℕ)
pairs_of text = map trim_spaces (slice_split is_comma text)

abbrev pub key_of : List ℕ → List ℕ
key_of pair = before_first is_space pair

-- 1 to 1,024 bytes of Base64, with canonical padding and no bits left over
unfoldable pub is_value : List ℕ → Bool
is_value text =
    nat_lt 0 (length text) && nat_le (length text) 1024 && is_ok (decode_of standard text)

-- a key of one byte or more, and a value where a space follows it
abbrev pub is_pair : List ℕ → Bool
is_pair pair =
    let key = key_of pair in
    nat_lt 0 (length key) && (length key == length pair || is_value (after_first is_space pair))

-- no text is equal to a later one
abbrev pub are_distinct : List (List ℕ) → Bool
are_distinct [] = true
are_distinct (text ∷ texts) = not (list_any (bytes_eq text) texts) && are_distinct texts

-- at most 1,024 bytes of pairs with distinct keys
unfoldable pub is_metadata : List ℕ → Bool
is_metadata text =
    nat_le (length text) 1024 && list_all is_pair (pairs_of text)
    && are_distinct (map key_of (pairs_of text))
