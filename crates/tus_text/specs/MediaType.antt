-- Media types (RFC 9110, sections 5.6.2, 5.6.6 and 8.3.1): a type, a slash and a subtype, then parameters, each behind a semicolon.
-- The value of a parameter is a token here, and never a quoted string.
use Rattle.std.specs.Prelude.{ℕ, Bool, ◌&&◌, ◌||◌, ◌==◌, List, codes, length, nat_lt, nat_le}
use Rattle.std.specs.Char.{is_ascii_alphanumeric}
use Rattle.std.specs.List.{after_first, before_first, list_all, list_any, slice_split}
use Rattle.std.specs.Str.{byte}
use Rattle.tus_text.specs.Cut.{trim_spaces}

-- a byte of a token
abbrev pub is_token_byte : ℕ → Bool
is_token_byte b = is_ascii_alphanumeric b || list_any (λ mark. mark == b) (codes "!#$%&'*+-.^_`|~")

-- one byte of a token or more
abbrev pub is_token : List ℕ → Bool
is_token text = nat_lt 0 (length text) && list_all is_token_byte text

-- a token, a mark and another token
abbrev pub joins_tokens : ℕ → List ℕ → Bool
joins_tokens mark text =
    let front = before_first (λ b. b == mark) text in
    nat_lt (length front) (length text) && is_token front && is_token (after_first (λ b. b == mark) text)

abbrev pub is_semicolon : ℕ → Bool
is_semicolon b = b == byte ";"

-- the type and the subtype alone
abbrev pub type_name : List ℕ → List ℕ
type_name text = trim_spaces (before_first is_semicolon text)

-- a name and its value, or nothing
abbrev pub is_parameter : List ℕ → Bool
is_parameter text = length text == 0 || joins_tokens (byte "=") text

-- a media type of at most 255 bytes
unfoldable pub is_media_type : List ℕ → Bool
is_media_type text =
    nat_le (length text) 255 && joins_tokens (byte "/") (type_name text)
    && list_all (λ part. is_parameter (trim_spaces part)) (slice_split is_semicolon (after_first is_semicolon text))
