-- The bytes of a sentence.
use Rattle.std.proofs.Common.{◌≡◌, ℕ, ◌≤◌, length, ◌∙◌, arith, encode_utf8}
use Rattle.std.proofs.lemmas.Str.{length-encode, len_utf8_ascii}

-- a character of ASCII is one byte
pub one_byte : (c : ℕ) → c ≤ 127 → length (encode_utf8 c) ≡ 1
one_byte c h = length-encode c ∙ len_utf8_ascii c (omega (arith, h))
