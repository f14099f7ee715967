-- What the plain program of Base64 stands on: a text by its groups, and decoding beside encoding.
use Rattle.std.proofs.Common.{◌≡◌, ℕ, zero, suc, ◌+◌, ◌*◌, ◌/◌, ◌<◌, ◌≤◌, Bool, true, false, List, [], ◌∷◌, ◌++◌, length, take, drop, slice_index, Option, Some, None, Result, Ok, Err, is_ok, ◌⊎◌, inl, inr, refl, sym, ap, ◌∙◌, subst, append-nil, arith}
use Rattle.std.specs.Prelude.{IsTrue}
use Rattle.std.proofs.lemmas.Bool.{cases_lt}
use Rattle.std.proofs.lemmas.List.{length-take, length-drop, take-append-drop, get_or-drop, nil_from_length}
use Rattle.base64.specs.declared.decode.DecodeError.{DecodeError}
use Rattle.base64.specs.Rfc4648.{encode_symbols}
use Rattle.base64.specs.declared.engine.DecodePaddingMode.TheVariants.{RequireCanonical}
use Rattle.base64.specs.Decode.{decode_group, or_else, symbol_error, groups_error, groups_bytes, groups_before_last, no_leftover, scan_last, leftover_bytes, suffix_error, suffix_bytes, lone_error, decode_error, decoded_bytes, decode_outcome}
use Rattle.base64.specs.Engines.{standard}
use Rattle.base64.specs.GeneralPurpose.{IsBytes, encode_of, decode_of}
use Rattle.base64.proofs.Tables.{encode-decode_table}
use Rattle.base64.proofs.Canonical.{IsScanned-scan}
use Rattle.base64.proofs.EngineFacts.{encode_of-append, encode_of-nil, decode_of-encode_of, decode_of_strict, front_bytes}
use Rattle.tus_text_tests.proofs.PlainGroupLemmas.{tables, value_of, three-bytes, IsLastEncoded}

-- the first four bytes, and the rest
encoded-cut : (bytes : List ℕ) → 0 < length bytes → (take 4 (encode_of standard bytes) ≡ encode_of standard (take 3 bytes)) × (drop 4 (encode_of standard bytes) ≡ encode_of standard (drop 3 bytes)) × (4 ≤ length (encode_of standard bytes))
unfolding encode_symbols
encoded-cut [] some = absurd (omega arith)
encoded-cut (a ∷ []) some = (refl, refl, omega arith)
encoded-cut (a ∷ b ∷ []) some = (refl, refl, omega arith)
encoded-cut (a ∷ b ∷ c ∷ rest) some =
    let whole = encode_of-append standard (a ∷ b ∷ c ∷ []) rest refl in
    (ap (take 4) whole, ap (drop 4) whole, omega (arith, ap length whole))

bytes-front : (n : ℕ) (bytes : List ℕ) → IsBytes bytes → IsBytes (take n bytes)
bytes-front n bytes fit = front_bytes (take n bytes) (drop n bytes) (subst IsBytes (sym (take-append-drop n bytes)) fit)

bytes-back : (bytes : List ℕ) → IsBytes bytes → IsBytes (drop 3 bytes)
bytes-back bytes fit i = rw (get_or-drop 3 bytes i 0) (fit (3 + i))

bytes-append : (front back : List ℕ) → IsBytes front → IsBytes back → IsBytes (front ++ back)
bytes-append [] back f b i = b i
bytes-append (x ∷ front) back f b zero = f 0
bytes-append (x ∷ front) back f b (suc i) = bytes-append front back (λ k. f (suc k)) b i

abbrev pub IsEncoded : List ℕ → Type 0
IsEncoded text = (bytes : List ℕ) × IsBytes bytes × (text ≡ encode_of standard bytes)

-- a text that is not empty, by its first group and the rest
pub record Cut (text : List ℕ) : Type 0 where
  pub front : List ℕ
  pub back : List ℕ
  pub front_fits : IsBytes front
  pub back_fits : IsBytes back
  pub some : 0 < length front
  pub short : length front ≤ 3
  pub whole : 0 < length back → length front ≡ 3
  pub group : take 4 text ≡ encode_of standard front
  pub rest : drop 4 text ≡ encode_of standard back
  pub long : 4 ≤ length text

pub cut-encoded : (text : List ℕ) → (length text ≡ 0 → ⊥) → IsEncoded text → Cut text
cut-encoded text some (bytes, fit, is) =
    let any : 0 < length bytes = elim (cases_lt 0 (length bytes)) [
      | inl one ↦ one
      | inr none ↦ absurd (some (ap length (is ∙ ap (encode_of standard) (nil_from_length bytes (omega arith)) ∙ encode_of-nil standard)))
    ] in
    let cut = encoded-cut bytes any in
    record {
      front = take 3 bytes;
      back = drop 3 bytes;
      front_fits = bytes-front 3 bytes fit;
      back_fits = bytes-back bytes fit;
      some = omega (arith, length-take 3 bytes);
      short = omega (arith, length-take 3 bytes);
      whole = λ more. omega (arith, length-take 3 bytes, length-drop 3 bytes);
      group = ap (take 4) is ∙ cut.0;
      rest = ap (drop 4) is ∙ cut.1;
      long = rw is cut.2;
    }

-- the back of a cut where more follows the first group
back-some : (text : List ℕ) → (cut : Cut text) → (length (drop 4 text) ≡ 0 → ⊥) → 0 < length cut.back
back-some text cut some = elim (cases_lt 0 (length cut.back)) [
  | inl more ↦ more
  | inr none ↦ absurd (some (ap length (cut.rest ∙ ap (encode_of standard) (nil_from_length cut.back (omega arith)) ∙ encode_of-nil standard)))
]

abbrev pub IsGroupEncoded : List ℕ → Type 0
IsGroupEncoded group = (bytes : List ℕ) × IsBytes bytes × (length bytes ≡ 3) × (group ≡ encode_of standard bytes)

-- the text is its first four bytes and the rest
text-parts : (text group rest : List ℕ) → group ≡ take 4 text → rest ≡ drop 4 text → text ≡ group ++ rest
text-parts text group rest is_group is_rest = sym (take-append-drop 4 text) ∙ (λ i. sym is_group i ++ sym is_rest i)

-- a text of one group
pub only-group : (text group rest : List ℕ) → (length text ≡ 0 → ⊥) → group ≡ take 4 text → rest ≡ drop 4 text → length rest ≡ 0 → (IsLastEncoded group → IsEncoded text) × (IsEncoded text → IsLastEncoded group)
only-group text group rest some is_group is_rest none =
    let whole = text-parts text group rest is_group is_rest ∙ ap (λ bytes. group ++ bytes) (nil_from_length rest none) ∙ append-nil group in
    (λ e. (e.0, e.1, whole ∙ e.4), λ e. let cut = cut-encoded text some e in (cut.front, cut.front_fits, cut.some, cut.short, is_group ∙ cut.group))

-- a text of more than one
pub first-group : (text group rest : List ℕ) → group ≡ take 4 text → rest ≡ drop 4 text → IsGroupEncoded group → IsEncoded rest → IsEncoded text
first-group text group rest is_group is_rest first back = (
  first.0 ++ back.0,
  bytes-append first.0 back.0 first.1 back.1,
  text-parts text group rest is_group is_rest ∙ (λ i. first.3 i ++ back.2 i) ∙ sym (encode_of-append standard first.0 back.0 (omega (arith, first.2))),
)

pub groups-of : (text group rest : List ℕ) → (length text ≡ 0 → ⊥) → group ≡ take 4 text → rest ≡ drop 4 text → (length rest ≡ 0 → ⊥) → IsEncoded text → IsGroupEncoded group × IsEncoded rest
groups-of text group rest some is_group is_rest more e =
    let cut = cut-encoded text some e in
    let back = back-some text cut (λ none. more (ap length is_rest ∙ none)) in
    ((cut.front, cut.front_fits, cut.whole back, is_group ∙ cut.group), (cut.back, cut.back_fits, is_rest ∙ cut.rest))

-- what decodes is bytes: first the groups before the last
or_else-none : (x y : Option DecodeError) → or_else x y ≡ None → (x ≡ None) × (y ≡ None)
or_else-none None y is = (refl, is)
or_else-none (Some e) y is = cc is

symbol-fits : (text : List ℕ) (i : ℕ) → IsBytes text → symbol_error standard.decode_table text i ≡ None → value_of (slice_index text i) < 64
symbol-fits text i fit none = elim (encode-decode_table standard.encode_table standard.decode_table tables (slice_index text i) (fit i)) [
  | inl other ↦ cc (rw other at none)
  | inr one ↦ one.0
]

group-fits : (v w x y : ℕ) → v < 64 → w < 64 → x < 64 → y < 64 → IsBytes (decode_group v w x y)
group-fits v w x y fv fw fx fy = three-bytes _ _ _ (omega arith) (omega arith) (omega arith)

groups-fit : (text : List ℕ) (q : ℕ) → IsBytes text → groups_error standard.decode_table text q ≡ None → IsBytes (groups_bytes standard.decode_table text q)
unfolding groups_error groups_bytes
groups-fit text zero fit none = λ i. omega arith
groups-fit text (suc q) fit none =
    let at : ℕ = 4 * q in
    let parts = or_else-none (groups_error standard.decode_table text q) _ none in
    let p0 = or_else-none (symbol_error standard.decode_table text at) _ parts.1 in
    let p1 = or_else-none (symbol_error standard.decode_table text (at + 1)) _ p0.1 in
    let p2 = or_else-none (symbol_error standard.decode_table text (at + 2)) (symbol_error standard.decode_table text (at + 3)) p1.1 in
    bytes-append (groups_bytes standard.decode_table text q) _ (groups-fit text q fit parts.0)
    (group-fits _ _ _ _ (symbol-fits text at fit p0.0) (symbol-fits text (at + 1) fit p1.0) (symbol-fits text (at + 2) fit p2.0) (symbol-fits text (at + 3) fit p2.1))

-- and then the last
zeros-fit : (k : ℕ) → slice_index (0 ∷ 0 ∷ 0 ∷ 0 ∷ []) k < 64
zeros-fit zero = omega arith
zeros-fit (suc zero) = omega arith
zeros-fit (suc (suc zero)) = omega arith
zeros-fit (suc (suc (suc zero))) = omega arith
zeros-fit (suc (suc (suc (suc k)))) = omega arith

decoded-outcome : (x : Option DecodeError) (d b : List ℕ) → decode_outcome x d ≡ Ok b → (x ≡ None) × (d ≡ b)
decoded-outcome None d b is = (refl, cc is)
decoded-outcome (Some e) d b is = cc is

scan-cases : {T : Type 0} (r : Result T DecodeError) → ((st : T) × (r ≡ Ok st)) ⊎ ((e : DecodeError) × (r ≡ Err e))
scan-cases (Ok st) = inl (st, refl)
scan-cases (Err e) = inr (e, refl)

decoded-fits : (text b : List ℕ) → IsBytes text → decode_of standard text ≡ Ok b → IsBytes b
decoded-fits text b fit is =
    let q : ℕ = groups_before_last (length text) in
    let at : ℕ = 4 * q in
    let dec = standard.decode_table in
    let outcome = decoded-outcome (decode_error dec 61 false RequireCanonical text) (decoded_bytes dec 61 text) b is in
    let p0 = or_else-none (lone_error dec 61 text) _ outcome.0 in
    let p1 = or_else-none (groups_error dec text q) (suffix_error dec 61 false RequireCanonical at text) p0.1 in
    elim (scan-cases (scan_last dec 61 at text)) [
      | inl ok ↦
          let st = ok.0 in
          let rest : List ℕ = drop at text in
          let rest_fits : (k : ℕ) → slice_index rest k < 256 = λ k. rw (get_or-drop at text k 0) (fit (at + k)) in
          let scanned = IsScanned-scan standard.encode_table dec rest 61 at rest no_leftover st 0 tables rest_fits (omega (arith, length-drop at text)) (omega arith) refl
          ((refl, refl, λ j lt. absurd (omega arith), λ j low lt. absurd (omega arith)), (omega arith, omega arith, omega arith, zeros-fit)) ok.1 in
          let fits = scanned.1.3 in
          let last = bytes-front (st.morsels_count * 6 / 8) _ (group-fits _ _ _ _ (fits 0) (fits 1) (fits 2) (fits 3)) in
          let suffix : suffix_bytes dec 61 at text ≡ leftover_bytes st = rw ok.1 refl in
          subst IsBytes outcome.1 (bytes-append (groups_bytes dec text q) (suffix_bytes dec 61 at text) (groups-fit text q fit p1.0) (subst IsBytes (sym suffix) last))
      | inr err ↦ cc (rw err.1 at p1.1)
    ]

told-ok : (r : Bool) (x : Result (List ℕ) DecodeError) → ((b : List ℕ) → x ≡ Ok b → r ≡ true) → (r ≡ true → (b : List ℕ) × (x ≡ Ok b)) → r ≡ is_ok x
told-ok r (Ok b) from to = from b refl
told-ok true (Err e) from to = let bad = (to refl).1 in cc bad
told-ok false (Err e) from to = refl

-- what the answer says of decoding
pub decodes : (text : List ℕ) (r : Bool) → IsBytes text → (IsTrue r → IsEncoded text) × (IsEncoded text → IsTrue r) → r ≡ is_ok (decode_of standard text)
decodes text r fit tells =
    told-ok r (decode_of standard text)
    (λ b is.
    let b_fits = decoded-fits text b fit is in
    tells.1 (b, b_fits, decode_of_strict standard text b (refl, refl) fit is))
    (λ is.
    let e = tells.0 is in
    (e.0, ap (decode_of standard) e.2 ∙ decode_of-encode_of standard e.0 refl e.1))
