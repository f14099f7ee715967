-- What is determined of a head stays when more bytes follow.
use Rattle.std.proofs.Common.{◌≡◌, ℕ, suc, ◌+◌, ◌<◌, ◌≤◌, List, [], ◌∷◌, ◌++◌, length, Option, None, Some, option_map, refl, sym, ap, ◌∙◌, arith, inl, inr, le-leb, length-append, zero-add}
use Rattle.std.proofs.lemmas.Bool.{cases_Bool, lt-leb}
use Rattle.http_wire.specs.HeadText.{too_long, head_limit, ends_empty_line, head_len_after, head_len, text_at}
use Rattle.http_wire.specs.inside.Scan.{scanned}
use Rattle.http_wire.specs.declared.read.head_text.Scan.{Scan}

none_from_suc : (r : Option ℕ) → option_map suc r ≡ None → r ≡ None
none_from_suc None e = refl
none_from_suc (Some n) e = absurd cc

suc_kept : (r later : Option ℕ) (n : ℕ) → ((m : ℕ) → r ≡ Some m → later ≡ Some m) → option_map suc r ≡ Some n → option_map suc later ≡ Some n
suc_kept None later n same e = absurd cc
suc_kept (Some m) later n same e = ap (option_map suc) (same m refl) ∙ e

not_none : (n : ℕ) → Some n ≡ None → ⊥
not_none n e = absurd cc

-- where a head ends stays where it is
pub head_len_after-append : (before last : ℕ) (xs ys : List ℕ) (n : ℕ) → head_len_after before last xs ≡ Some n → head_len_after before last (xs ++ ys) ≡ Some n
head_len_after-append before last [] ys n e = absurd cc
head_len_after-append before last (b ∷ xs) ys n e =
    elim (cases_Bool (ends_empty_line before last b)) [
      | inl t ↦ rw t (rw t at e)
      | inr f ↦ rw f (suc_kept (head_len_after last b xs) (head_len_after last b (xs ++ ys)) n (head_len_after-append last b xs ys) (rw f at e))
    ]

some_is : {x y : ℕ} → Some x ≡ Some y → x ≡ y
some_is e = cc

-- a head has a byte
pub head_len_after-pos : (before last : ℕ) (xs : List ℕ) (n : ℕ) → head_len_after before last xs ≡ Some n → 0 < n
head_len_after-pos before last [] n e = absurd cc
head_len_after-pos before last (b ∷ xs) n e =
    elim (cases_Bool (ends_empty_line before last b)) [
      | inl t ↦ one (rw t at e)
      | inr f ↦ by (head_len_after last b xs) (rw f at e)
    ]
  where
    one : Some 1 ≡ Some n → 0 < n
    one e2 = omega (arith, some_is e2)

    by : (r : Option ℕ) → option_map suc r ≡ Some n → 0 < n
    by None e2 = absurd cc
    by (Some m) e2 = omega (arith, some_is e2)

-- a head is within the bytes that it begins
pub head_len_after-within : (before last : ℕ) (xs : List ℕ) (n : ℕ) → head_len_after before last xs ≡ Some n → n ≤ length xs
head_len_after-within before last [] n e = absurd cc
head_len_after-within before last (b ∷ xs) n e =
    elim (cases_Bool (ends_empty_line before last b)) [
      | inl t ↦ one (rw t at e)
      | inr f ↦ by (head_len_after last b xs) (head_len_after-within last b xs) (rw f at e)
    ]
  where
    one : Some 1 ≡ Some n → n ≤ length (b ∷ xs)
    one e2 = omega (arith, some_is e2)

    by : (r : Option ℕ) → ((m : ℕ) → r ≡ Some m → m ≤ length xs) → option_map suc r ≡ Some n → n ≤ length (b ∷ xs)
    by None within e2 = absurd cc
    by (Some m) within e2 =
        let inside = within m refl in
        omega (arith, inside, some_is e2)

map_zero : (r : Option ℕ) → r ≡ option_map (λ n. 0 + n) r
map_zero None = refl
map_zero (Some n) = ap (λ k. Some k) (sym (zero-add n))

map_more : (k : ℕ) (r : Option ℕ) → option_map suc (option_map (λ n. k + n) r) ≡ option_map (λ n. suc k + n) r
map_more k None = refl
map_more k (Some n) = ap (λ m. Some m) (omega arith)

-- bytes without the end of a head are searched no more
pub head_len_after-later : (s : Scan) (xs ys : List ℕ) → head_len_after s.before s.last xs ≡ None
    → head_len_after s.before s.last (xs ++ ys) ≡ option_map (λ n. length xs + n) (head_len_after (scanned s xs).before (scanned s xs).last ys)
head_len_after-later s [] ys e = map_zero (head_len_after s.before s.last ys)
head_len_after-later s (b ∷ xs) ys e =
    elim (cases_Bool (ends_empty_line s.before s.last b)) [
      | inl t ↦ absurd (not_none 1 (rw t at e))
      | inr f ↦
          let next : Scan = record { before = s.last; last = b } in
          rw f (ap (option_map suc) (head_len_after-later next xs ys (none_from_suc (head_len_after s.last b xs) (rw f at e)))
          ∙ map_more (length xs) (head_len_after (scanned next xs).before (scanned next xs).last ys))
    ]

-- what a text begins that has more than a head may have, whatever follows it
pub text_at-long : (skipped : ℕ) (held rest : List ℕ) → head_len held ≡ None → head_limit ≤ skipped + length held
    → text_at skipped (held ++ rest) (head_len (held ++ rest)) ≡ too_long
text_at-long skipped held rest e long =
    by (head_len (held ++ rest)) refl
  where
    start : Scan
    start = record { before = 0; last = 0 }

    at_none : (text : List ℕ) → length held ≤ length text → text_at skipped text None ≡ too_long
    at_none [] le = rw (le-leb head_limit skipped (omega arith)) refl
    at_none (b ∷ text) le = rw (le-leb head_limit (skipped + length (b ∷ text)) (omega arith)) refl

    far : (r : Option ℕ) (n : ℕ) → ((m : ℕ) → r ≡ Some m → 0 < m) → Some n ≡ option_map (λ m. length held + m) r → length held < n
    far None n pos e2 = absurd cc
    far (Some m) n pos e2 =
        let p = pos m refl in
        let same : n ≡ length held + m = cc in
        omega (arith, p, same)

    by : (r : Option ℕ) → head_len (held ++ rest) ≡ r → text_at skipped (held ++ rest) r ≡ too_long
    by None is = at_none (held ++ rest) (omega (arith, length-append held rest))
    by (Some n) is =
        let later = head_len_after-later start held rest e in
        let beyond = far (head_len_after (scanned start held).before (scanned start held).last rest) n
        (head_len_after-pos (scanned start held).before (scanned start held).last rest) (sym is ∙ later) in
        rw (lt-leb (skipped + n) head_limit (omega (arith, beyond))) refl
