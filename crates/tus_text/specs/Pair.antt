-- What Upload-Metadata tells under a key (tus 1.0.0, creation).
use Rattle.std.specs.Prelude.{ℕ, List, length, nat_lt, Option, None, option_and_then, bytes_eq, find, if◌then◌else◌}
use Rattle.std.specs.Result.{result_ok}
use Rattle.std.specs.List.{after_first}
use Rattle.base64.specs.Engines.{standard}
use Rattle.base64.specs.GeneralPurpose.{decode_of}
use Rattle.tus_text.specs.Cut.{is_space}
use Rattle.tus_text.specs.Metadata.{key_of, pairs_of}

-- the bytes of a text of Base64 (RFC 4648, section 4), padded, of at most 1,024 bytes
abbrev pub decoded : List ℕ → Option (List ℕ)
decoded text = if nat_lt 1024 (length text) then None else result_ok (decode_of standard text)

-- the value of a pair; that of a key alone has no bytes
abbrev pub value_of : List ℕ → Option (List ℕ)
value_of pair = decoded (after_first is_space pair)

-- the value of the first pair that has this key
abbrev pub value_under : List ℕ → List ℕ → Option (List ℕ)
value_under key text = option_and_then value_of (find (λ pair. bytes_eq (key_of pair) key) (pairs_of text))
