-- The percent-encoding under a set escapes the bytes that may not stand for themselves.
use Rattle.std.proofs.Common.{◌≡◌, ℕ, ◌<◌, ◌≤◌, ◌+◌, ◌*◌, ◌/◌, ◌%◌, Bool, true, false, not, List, [], ◌∷◌, ◌++◌, length, All, refl, ap₂, arith}
use Rattle.std.specs.Fmt.{digit_glyph}
use Rattle.std.proofs.lemmas.Bool.{agree_below, agree_below_at}
use Rattle.std.proofs.lemmas.Bool.Decides.{nat_tests}
use Rattle.std.proofs.lemmas.List.{length-append}
use Rattle.std.proofs.lemmas.List.Elements.{All-head, All-tail}
use Rattle.percent_encoding.specs.AsciiSet.{should_percent_encode}
use Rattle.percent_encoding.specs.Percent.{encode_byte, percent_encode, percent_encode_byte}
use Rattle.percent_encoding.specs.declared.ascii_set.AsciiSet.{AsciiSet}
use Rattle.tus_text.specs.Escape.{escape_unless, escaped_unless, hex_digit}

digits_agree : (n : ℕ) → n < 16 → digit_glyph true n ≡ hex_digit n
digits_agree n small = grind (arith, nat_tests)

module _ (set : AsciiSet) (is_plain : ℕ → Bool) where
  escape_agrees_by : (b : ℕ) (plain : Bool) → b < 256 → is_plain b ≡ plain → should_percent_encode set b ≡ not plain
      → encode_byte set b ≡ escape_unless is_plain b
  unfolding percent_encode_byte
  escape_agrees_by b true small plain escapes = rw (plain, escapes) refl
  escape_agrees_by b false small plain escapes =
      let first : b / 16 % 16 ≡ b / 16 = omega arith in
      rw (plain, escapes, first, digits_agree (b / 16) (omega arith), digits_agree (b % 16) (omega arith)) refl

  module _ (agree : agree_below (should_percent_encode set) (λ b. not (is_plain b)) 256 ≡ true) where
    escape_agrees : (b : ℕ) → b < 256 → encode_byte set b ≡ escape_unless is_plain b
    escape_agrees b small =
        escape_agrees_by b (is_plain b) small refl (agree_below_at (should_percent_encode set) (λ x. not (is_plain x)) 256 b agree small)

    pub texts_agree : (text : List ℕ) → All (λ b. b < 256) text → percent_encode set text ≡ escaped_unless is_plain text
    unfolding percent_encode
    texts_agree [] small = refl
    texts_agree (b ∷ text) small =
        ap₂ (λ (xs ys : List ℕ). xs ++ ys) (escape_agrees b (All-head (λ x. x < 256) b text small)) (texts_agree text (All-tail (λ x. x < 256) b text small))

-- a byte takes three at most
escape-length : (is_plain : ℕ → Bool) (b : ℕ) (plain : Bool) → is_plain b ≡ plain → length (escape_unless is_plain b) ≤ 3
escape-length is_plain b true is = rw is (omega arith)
escape-length is_plain b false is = rw is (omega arith)

pub escaped-length : (is_plain : ℕ → Bool) (text : List ℕ) → length (escaped_unless is_plain text) ≤ 3 * length text
escaped-length is_plain [] = omega arith
escaped-length is_plain (b ∷ text) =
    omega (arith, length-append (escape_unless is_plain b) (escaped_unless is_plain text), escape-length is_plain b (is_plain b) refl, escaped-length is_plain text)
