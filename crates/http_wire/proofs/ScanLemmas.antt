-- The search for the end of a head, which goes from one LF to the next.
use Rattle.std.proofs.Common.{◌≡◌, ℕ, zero, suc, ◌+◌, ◌-◌, ◌<◌, ◌≤◌, true, false, List, [], ◌∷◌, ◌++◌, length, take, drop, Option, None, Some, option_map, refl, sym, ap, ◌∙◌, inl, inr, arith, length-drop}
use Rattle.std.specs.Prelude.{◌==◌, slice_index}
use Rattle.std.proofs.lemmas.Bool.{cases_Bool, eqb-true}
use Rattle.std.proofs.lemmas.List.{take_all}
use Rattle.memchr.specs.Find.{IsFirstByte, is_byte}
use Rattle.http_wire.specs.HeadText.{ends_empty_line, head_len_after}
use Rattle.http_wire.specs.inside.Scan.{scanned}
use Rattle.http_wire.specs.declared.read.head_text.Scan.{Scan}

some : {x y : ℕ} → x ≡ y → Some x ≡ Some y
some is = ap (λ (x : ℕ). Some x) is

map_zero : (r : Option ℕ) → option_map (λ n. 0 + n) r ≡ r
map_zero None = refl
map_zero (Some n) = some (omega arith)

map_more : (m k : ℕ) (r : Option ℕ) → option_map (λ n. m + n) (option_map (λ n. k + n) r) ≡ option_map (λ n. (m + k) + n) r
map_more m k None = refl
map_more m k (Some n) = some (omega arith)

map_suc : (m : ℕ) (r : Option ℕ) → option_map suc (option_map (λ n. m + n) r) ≡ option_map (λ n. suc m + n) r
map_suc m None = refl
map_suc m (Some n) = some (omega arith)

-- none of the first m bytes is an LF
abbrev NoLine : ℕ → List ℕ → Type 0
NoLine m bytes = (k : ℕ) → k < m → slice_index bytes k ≡ 10 → ⊥

-- the search goes past bytes without an LF
past : (s : Scan) (m : ℕ) (bytes : List ℕ) → m ≤ length bytes → NoLine m bytes
    → head_len_after s.before s.last bytes ≡ option_map (λ n. m + n) (head_len_after (scanned s (take m bytes)).before (scanned s (take m bytes)).last (drop m bytes))
past s zero bytes le none = sym (map_zero (head_len_after s.before s.last bytes))
past s (suc m) [] le none = absurd (omega (arith, le))
past s (suc m) (b ∷ bytes) le none =
    elim (cases_Bool (b == 10)) [
      | inl t ↦ absurd (none 0 (omega arith) (eqb-true b 10 t))
      | inr f ↦
          let next : Scan = record { before = s.last; last = b } in
          rw f (ap (option_map suc) (past next m bytes (omega (arith, le)) (λ k lt. none (suc k) (omega (arith, lt)))) ∙ map_suc m (head_len_after (scanned next (take m bytes)).before (scanned next (take m bytes)).last (drop m bytes)))
    ]

pub scanned-append : (s : Scan) (xs ys : List ℕ) → scanned s (xs ++ ys) ≡ scanned (scanned s xs) ys
scanned-append s [] ys = refl
scanned-append s (x ∷ xs) ys = scanned-append (record { before = s.last; last = x }) xs ys

-- after a byte that comes last, that is the last one
pub scanned-last : (s : Scan) (xs : List ℕ) (b : ℕ) → scanned s (xs ++ b ∷ []) ≡ record { before = (scanned s xs).last; last = b }
scanned-last s xs b = scanned-append s xs (b ∷ [])

-- a byte at a place, and what stands before and after it
at_place : (m : ℕ) (bytes : List ℕ) → m < length bytes → drop m bytes ≡ slice_index bytes m ∷ drop (suc m) bytes
at_place m [] inside = absurd (omega (arith, inside))
at_place zero (b ∷ bytes) inside = refl
at_place (suc m) (b ∷ bytes) inside = at_place m bytes (omega (arith, inside))

dropped : (m : ℕ) → drop {A = ℕ} m [] ≡ []
dropped zero = refl
dropped (suc m) = refl

drop_twice : (seen m : ℕ) (bytes : List ℕ) → drop m (drop seen bytes) ≡ drop (seen + m) bytes
drop_twice zero m bytes = ap (λ k. drop k bytes) (omega arith)
drop_twice (suc seen) m [] = dropped m ∙ sym (dropped (suc seen + m))
drop_twice (suc seen) m (b ∷ bytes) = drop_twice seen m bytes ∙ ap (λ k. drop k (b ∷ bytes)) {x = suc (seen + m)} {y = suc seen + m} (omega arith)

taken_at : (m : ℕ) (bytes : List ℕ) → m < length bytes → take m bytes ++ slice_index bytes m ∷ drop (suc m) bytes ≡ bytes
taken_at m [] inside = absurd (omega (arith, inside))
taken_at zero (b ∷ bytes) inside = refl
taken_at (suc m) (b ∷ bytes) inside = ap (λ l. b ∷ l) (taken_at m bytes (omega (arith, inside)))

dropped_all : (bytes : List ℕ) → drop (length bytes) bytes ≡ []
dropped_all [] = refl
dropped_all (b ∷ bytes) = dropped_all bytes

-- what follows a place, taken whole
pub rest_whole : (seen : ℕ) (bytes : List ℕ) → take (length bytes - seen) (drop seen bytes) ≡ drop seen bytes
rest_whole seen bytes = take_all (length bytes - seen) (drop seen bytes) (omega (arith, length-drop seen bytes))

-- The search of some bytes has come so far in them: what is left gives the answer.
pub record IsSearching (old : Scan) (bytes : List ℕ) (s : Scan) (seen : ℕ) : Type 0 where
  pub within : seen ≤ length bytes
  pub ends : head_len_after old.before old.last bytes ≡ option_map (λ n. seen + n) (head_len_after s.before s.last (drop seen bytes))
  pub sees : scanned old bytes ≡ scanned s (drop seen bytes)

module _ (old : Scan) (bytes : List ℕ) (s : Scan) (seen : ℕ) (so_far : IsSearching old bytes s seen) where
  -- no LF is left
  pub ends_nowhere : IsFirstByte (is_byte 10) (drop seen bytes) None → head_len_after old.before old.last bytes ≡ None
  ends_nowhere none =
      let rest = drop seen bytes in
      let t = scanned s (take (length rest) rest) in
      so_far.ends ∙ ap (option_map (λ n. seen + n)) (past s (length rest) rest (omega arith) (λ k lt is. none k (omega arith) lt (rw is refl))
      ∙ ap (λ l. option_map (λ n. length rest + n) (head_len_after t.before t.last l)) (dropped_all rest))

  module _ (m : ℕ) (first : IsFirstByte (is_byte 10) (drop seen bytes) (Some m)) (t : Scan) (passed : t ≡ scanned s (take m (drop seen bytes))) where
    inside : m < length (drop seen bytes)
    inside = first.0.high

    is_line : slice_index (drop seen bytes) m ≡ 10
    is_line = eqb-true (slice_index (drop seen bytes) m) 10 first.1

    -- what follows the bytes that were passed
    left : drop m (drop seen bytes) ≡ 10 ∷ drop (suc m) (drop seen bytes)
    left = at_place m (drop seen bytes) inside ∙ ap (λ b. b ∷ drop (suc m) (drop seen bytes)) is_line

    here : head_len_after old.before old.last bytes ≡ option_map (λ n. seen + n) (option_map (λ n. m + n) (head_len_after t.before t.last (10 ∷ drop (suc m) (drop seen bytes))))
    here =
        let rest = drop seen bytes in
        so_far.ends ∙ ap (option_map (λ n. seen + n)) (past s m rest (omega (arith, inside)) (λ k lt is. first.0.before k (omega arith) lt (rw is refl))
        ∙ rw (← passed) (ap (λ l. option_map (λ n. m + n) (head_len_after t.before t.last l)) left))

    -- it ends the empty line
    pub ends_here : ends_empty_line t.before t.last 10 ≡ true → head_len_after old.before old.last bytes ≡ Some (seen + m + 1)
    ends_here is = here ∙ rw is (some (omega arith))

    -- it does not, and the search goes on after it
    pub goes_on : ends_empty_line t.before t.last 10 ≡ false → (next : ℕ) → next ≡ seen + (m + 1) → IsSearching old bytes (record { before = t.last; last = 10 }) next
    goes_on is next at =
        let rest = drop seen bytes in
        let more = drop (suc m) rest in
        let more_is : more ≡ drop next bytes = drop_twice seen (suc m) bytes ∙ ap (λ k. drop k bytes) (omega (arith, at)) in
        record {
          within = omega (arith, at, so_far.within, inside, length-drop seen bytes);
          ends = here ∙ rw is (further (head_len_after t.last 10 more) ∙ ap (λ l. option_map (λ n. next + n) (head_len_after t.last 10 l)) more_is);
          sees = so_far.sees ∙ ap (scanned s) (sym (taken_at m rest inside)) ∙ scanned-append s (take m rest) (slice_index rest m ∷ more) ∙ rw (← passed, is_line) (ap (scanned (record { before = t.last; last = 10 })) more_is);
        }
      where
        further : (r : Option ℕ) → option_map (λ n. seen + n) (option_map (λ n. m + n) (option_map suc r)) ≡ option_map (λ n. next + n) r
        further None = refl
        further (Some n) = some (omega (arith, at))
