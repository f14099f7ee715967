-- What the plain program of Base64 stands on: groups of four symbols beside their encoding.
use Rattle.std.proofs.Common.{◌≡◌, ℕ, zero, suc, ◌+◌, ◌*◌, ◌/◌, ◌%◌, ◌<◌, ◌≤◌, Bool, true, false, List, [], ◌∷◌, length, slice_index, Option, Some, None, IfSome, IfNone, is_some, ◌⊎◌, inl, inr, refl, sym, ap, ◌∙◌, subst, arith}
use Rattle.std.specs.Prelude.{IsTrue}
use Rattle.base64.specs.Rfc4648.{encode_symbols}
use Rattle.base64.specs.Decode.{decode_group}
use Rattle.base64.specs.Tables.{is_inverse}
use Rattle.base64.specs.Engines.{standard}
use Rattle.base64.specs.GeneralPurpose.{IsBytes, encode_of}
use Rattle.base64.proofs.Tables.{decode-encode_table, encode-decode_table}

pub tables : is_inverse standard.encode_table standard.decode_table ≡ true
tables = refl

-- the value of a symbol
abbrev pub value_of : ℕ → ℕ
value_of symbol = slice_index standard.decode_table symbol

abbrev pub symbol_of : ℕ → ℕ
symbol_of value = slice_index standard.encode_table value

pub value_of-symbol_of : (value : ℕ) → value < 64 → value_of (symbol_of value) ≡ value
value_of-symbol_of value fits = decode-encode_table standard.encode_table standard.decode_table tables value fits

pub symbol_of-value_of : (symbol : ℕ) → symbol < 256 → value_of symbol < 64 → symbol_of (value_of symbol) ≡ symbol
symbol_of-value_of symbol byte is = elim (encode-decode_table standard.encode_table standard.decode_table tables symbol byte) [
  | inl other ↦ absurd (omega arith)
  | inr one ↦ one.1
]

-- a byte that is no symbol
pub value_of-none : (symbol : ℕ) → symbol < 256 → ((k : ℕ) → k < 64 → symbol_of k ≡ symbol → ⊥) → value_of symbol ≡ 255
value_of-none symbol byte never = elim (encode-decode_table standard.encode_table standard.decode_table tables symbol byte) [
  | inl other ↦ other
  | inr one ↦ absurd (never (value_of symbol) one.0 one.1)
]

four-of : (text : List ℕ) → length text ≡ 4 → text ≡ slice_index text 0 ∷ slice_index text 1 ∷ slice_index text 2 ∷ slice_index text 3 ∷ []
four-of (a ∷ b ∷ c ∷ d ∷ []) len = refl
four-of [] len = absurd (omega arith)
four-of (a ∷ []) len = absurd (omega arith)
four-of (a ∷ b ∷ []) len = absurd (omega arith)
four-of (a ∷ b ∷ c ∷ []) len = absurd (omega arith)
four-of (a ∷ b ∷ c ∷ d ∷ e ∷ text) len = absurd (omega arith)

-- three bytes as four values, and back
pub three-bytes : (a b c : ℕ) → a < 256 → b < 256 → c < 256 → IsBytes (a ∷ b ∷ c ∷ [])
three-bytes a b c fa fb fc zero = fa
three-bytes a b c fa fb fc (suc zero) = fb
three-bytes a b c fa fb fc (suc (suc zero)) = fc
three-bytes a b c fa fb fc (suc (suc (suc k))) = omega arith

encoded-three : (v w x y : ℕ) → v < 64 → w < 64 → x < 64 → y < 64 → encode_of standard (decode_group v w x y) ≡ symbol_of v ∷ symbol_of w ∷ symbol_of x ∷ symbol_of y ∷ []
unfolding encode_symbols
encoded-three v w x y fv fw fx fy =
    let e0 : (v * 4 + w / 16) / 4 ≡ v = omega arith in
    let e1 : (v * 4 + w / 16) % 4 * 16 + (w % 16 * 16 + x / 4) / 16 ≡ w = omega arith in
    let e2 : (w % 16 * 16 + x / 4) % 16 * 4 + (x % 4 * 64 + y) / 64 ≡ x = omega arith in
    let e3 : (x % 4 * 64 + y) % 64 ≡ y = omega arith in
    rw (e0, e1, e2, e3) refl

encoded-two : (v w x : ℕ) → v < 64 → w < 64 → x < 64 → x % 4 ≡ 0 → encode_of standard ((v * 4 + w / 16) ∷ (w % 16 * 16 + x / 4) ∷ []) ≡ symbol_of v ∷ symbol_of w ∷ symbol_of x ∷ 61 ∷ []
unfolding encode_symbols
encoded-two v w x fv fw fx none =
    let e0 : (v * 4 + w / 16) / 4 ≡ v = omega arith in
    let e1 : (v * 4 + w / 16) % 4 * 16 + (w % 16 * 16 + x / 4) / 16 ≡ w = omega arith in
    let e2 : (w % 16 * 16 + x / 4) % 16 * 4 ≡ x = omega arith in
    rw (e0, e1, e2) refl

encoded-one : (v w : ℕ) → v < 64 → w < 64 → w % 16 ≡ 0 → encode_of standard ((v * 4 + w / 16) ∷ []) ≡ symbol_of v ∷ symbol_of w ∷ 61 ∷ 61 ∷ []
unfolding encode_symbols
encoded-one v w fv fw none =
    let e0 : (v * 4 + w / 16) / 4 ≡ v = omega arith in
    let e1 : (v * 4 + w / 16) % 4 * 16 ≡ w = omega arith in
    rw (e0, e1) refl

-- what the bytes of a group's symbols are
abbrev pub AreSymbols : List ℕ → Type 0
AreSymbols group = (k : ℕ) → k < 4 → value_of (slice_index group k) < 64

all-four : (group : List ℕ) → value_of (slice_index group 0) < 64 → value_of (slice_index group 1) < 64 → value_of (slice_index group 2) < 64 → value_of (slice_index group 3) < 64 → AreSymbols group
all-four group f0 f1 f2 f3 zero below = f0
all-four group f0 f1 f2 f3 (suc zero) below = f1
all-four group f0 f1 f2 f3 (suc (suc zero)) below = f2
all-four group f0 f1 f2 f3 (suc (suc (suc zero))) below = f3
all-four group f0 f1 f2 f3 (suc (suc (suc (suc k)))) below = absurd (omega arith)

pub group-from_symbols : (group : List ℕ) → IsBytes group → length group ≡ 4 → AreSymbols group → (bytes : List ℕ) × IsBytes bytes × (length bytes ≡ 3) × (group ≡ encode_of standard bytes)
group-from_symbols group fit len all =
    let v : ℕ = value_of (slice_index group 0) in
    let w : ℕ = value_of (slice_index group 1) in
    let x : ℕ = value_of (slice_index group 2) in
    let y : ℕ = value_of (slice_index group 3) in
    let fv : v < 64 = all 0 (omega arith) in
    let fw : w < 64 = all 1 (omega arith) in
    let fx : x < 64 = all 2 (omega arith) in
    let fy : y < 64 = all 3 (omega arith) in
    let sv = sym (symbol_of-value_of (slice_index group 0) (fit 0) fv) in
    let sw = sym (symbol_of-value_of (slice_index group 1) (fit 1) fw) in
    let sx = sym (symbol_of-value_of (slice_index group 2) (fit 2) fx) in
    let sy = sym (symbol_of-value_of (slice_index group 3) (fit 3) fy) in
    (decode_group v w x y, three-bytes _ _ _ (omega arith) (omega arith) (omega arith), refl, four-of group len ∙ (λ i. sv i ∷ sw i ∷ sx i ∷ sy i ∷ []) ∙ sym (encoded-three v w x y fv fw fx fy))

small-value : (value : ℕ) → value < 64 → value_of (symbol_of value) < 64
small-value value fits = rw (value_of-symbol_of value fits) fits

four-symbols : (v w x y : ℕ) → v < 64 → w < 64 → x < 64 → y < 64 → AreSymbols (symbol_of v ∷ symbol_of w ∷ symbol_of x ∷ symbol_of y ∷ [])
four-symbols v w x y fv fw fx fy zero below = small-value v fv
four-symbols v w x y fv fw fx fy (suc zero) below = small-value w fw
four-symbols v w x y fv fw fx fy (suc (suc zero)) below = small-value x fx
four-symbols v w x y fv fw fx fy (suc (suc (suc zero))) below = small-value y fy
four-symbols v w x y fv fw fx fy (suc (suc (suc (suc k)))) below = absurd (omega arith)

pub symbols-from_group : (group bytes : List ℕ) → IsBytes bytes → length bytes ≡ 3 → group ≡ encode_of standard bytes → AreSymbols group
unfolding encode_symbols
symbols-from_group group [] fit len is = absurd (omega arith)
symbols-from_group group (a ∷ []) fit len is = absurd (omega arith)
symbols-from_group group (a ∷ b ∷ []) fit len is = absurd (omega arith)
symbols-from_group group (a ∷ b ∷ c ∷ []) fit len is =
    let fa : a < 256 = fit 0 in
    let fb : b < 256 = fit 1 in
    let fc : c < 256 = fit 2 in
    subst AreSymbols (sym is) (four-symbols (a / 4) (a % 4 * 16 + b / 16) (b % 16 * 4 + c / 64) (c % 64) (omega arith) (omega arith) (omega arith) (omega arith))
symbols-from_group group (a ∷ b ∷ c ∷ d ∷ bytes) fit len is = absurd (omega arith)

-- the last group, with two signs of padding, one or none
abbrev pub IsLast : List ℕ → Type 0
IsLast group =
    (value_of (slice_index group 0) < 64) × (value_of (slice_index group 1) < 64)
    × (((slice_index group 2 ≡ 61) × (slice_index group 3 ≡ 61) × (value_of (slice_index group 1) % 16 ≡ 0))
    ⊎ ((value_of (slice_index group 2) < 64)
    × (((slice_index group 3 ≡ 61) × (value_of (slice_index group 2) % 4 ≡ 0)) ⊎ (value_of (slice_index group 3) < 64))))

abbrev pub IsLastEncoded : List ℕ → Type 0
IsLastEncoded group =
    (bytes : List ℕ) × IsBytes bytes × (0 < length bytes) × (length bytes ≤ 3) × (group ≡ encode_of standard bytes)

pub last-from_encoded : (group bytes : List ℕ) → IsBytes bytes → 0 < length bytes → length bytes ≤ 3 → group ≡ encode_of standard bytes → IsLast group
unfolding encode_symbols
last-from_encoded group [] fit some short is = absurd (omega arith)
last-from_encoded group (a ∷ []) fit some short is =
    let fa : a < 256 = fit 0 in
    let fw : a % 4 * 16 < 64 = omega arith in
    let none : value_of (symbol_of (a % 4 * 16)) % 16 ≡ 0 = rw (value_of-symbol_of (a % 4 * 16) fw) (omega arith) in
    subst IsLast (sym is) (small-value (a / 4) (omega arith), small-value (a % 4 * 16) fw, inl (refl, refl, none))
last-from_encoded group (a ∷ b ∷ []) fit some short is =
    let fa : a < 256 = fit 0 in
    let fb : b < 256 = fit 1 in
    let fx : b % 16 * 4 < 64 = omega arith in
    let none : value_of (symbol_of (b % 16 * 4)) % 4 ≡ 0 = rw (value_of-symbol_of (b % 16 * 4) fx) (omega arith) in
    subst IsLast (sym is) (small-value (a / 4) (omega arith), small-value (a % 4 * 16 + b / 16) (omega arith), inr (small-value (b % 16 * 4) fx, inl (refl, none)))
last-from_encoded group (a ∷ b ∷ c ∷ []) fit some short is =
    let all = symbols-from_group group (a ∷ b ∷ c ∷ []) fit refl is in
    (all 0 (omega arith), all 1 (omega arith), inr (all 2 (omega arith), inr (all 3 (omega arith))))
last-from_encoded group (a ∷ b ∷ c ∷ d ∷ bytes) fit some short is = absurd (omega arith)

one-byte : (a : ℕ) → a < 256 → IsBytes (a ∷ [])
one-byte a fa zero = fa
one-byte a fa (suc k) = omega arith

two-bytes : (a b : ℕ) → a < 256 → b < 256 → IsBytes (a ∷ b ∷ [])
two-bytes a b fa fb zero = fa
two-bytes a b fa fb (suc zero) = fb
two-bytes a b fa fb (suc (suc k)) = omega arith

pub encoded-from_last : (group : List ℕ) → IsBytes group → length group ≡ 4 → IsLast group → IsLastEncoded group
encoded-from_last group fit len last =
    let v : ℕ = value_of (slice_index group 0) in
    let w : ℕ = value_of (slice_index group 1) in
    let x : ℕ = value_of (slice_index group 2) in
    let fv : v < 64 = last.0 in
    let fw : w < 64 = last.1 in
    let sv = sym (symbol_of-value_of (slice_index group 0) (fit 0) fv) in
    let sw = sym (symbol_of-value_of (slice_index group 1) (fit 1) fw) in
    elim last.2 [
      | inl two ↦
          let e2 = two.0 in
          let e3 = two.1 in
          ((v * 4 + w / 16) ∷ [], one-byte _ (omega arith), omega arith, omega arith, four-of group len ∙ (λ i. sv i ∷ sw i ∷ e2 i ∷ e3 i ∷ []) ∙ sym (encoded-one v w fv fw two.2))
      | inr more ↦ elim more.1 [
        | inl one ↦
            let fx : x < 64 = more.0 in
            let sx = sym (symbol_of-value_of (slice_index group 2) (fit 2) fx) in
            let e3 = one.0 in
            ((v * 4 + w / 16) ∷ (w % 16 * 16 + x / 4) ∷ [], two-bytes _ _ (omega arith) (omega arith), omega arith, omega arith, four-of group len ∙ (λ i. sv i ∷ sw i ∷ sx i ∷ e3 i ∷ []) ∙ sym (encoded-two v w x fv fw fx one.1))
        | inr none ↦
            let all : AreSymbols group = all-four group fv fw more.0 none in
            let three = group-from_symbols group fit len all in
            (three.0, three.1, omega (arith, three.2), omega (arith, three.2), three.3)
      ]
    ]

pub last-tells : (group : List ℕ) (r : Bool) → IsBytes group → length group ≡ 4 → (r ≡ true → IsLast group) → (IsLast group → r ≡ true) → (IsTrue r → IsLastEncoded group) × (IsLastEncoded group → IsTrue r)
last-tells group r fit len to from =
    (λ is. encoded-from_last group fit len (to is), λ e. from (last-from_encoded group e.0 e.1 e.2 e.3 e.4))

-- what an answer on a symbol told
pub from_none : {P : Type 0} (r : Option ℕ) → IfNone r P → is_some r ≡ false → P
from_none None told is = told
from_none (Some value) told is = cc

pub from_some : (symbol : ℕ) (r : Option ℕ) → IfSome r (λ value. (value < 64) × (value ≡ value_of symbol)) → is_some r ≡ true → value_of symbol < 64
from_some symbol None told is = cc
from_some symbol (Some value) told is = omega arith

pub is_some-value : (symbol : ℕ) (r : Option ℕ) → IfSome r (λ value. (value < 64) × (value ≡ value_of symbol)) → IfNone r (value_of symbol ≡ 255) → (is_some r ≡ true → value_of symbol < 64) × (value_of symbol < 64 → is_some r ≡ true)
is_some-value symbol None some none = (λ is. cc, λ below. absurd (omega arith))
is_some-value symbol (Some value) some none = (λ is. omega arith, λ below. refl)

-- the padding is no symbol
pub padding-value : (symbol : ℕ) → symbol ≡ 61 → value_of symbol ≡ 255
padding-value symbol is = ap value_of is
