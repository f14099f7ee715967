-- A disk that tears does what every disk may do.
use Rattle.std.proofs.Common.{◌≡◌, ◌⊎◌, ℕ, ◌+◌, ◌<◌, ◌≤◌, true, false, cond, ltb, List, map, length, get_or, Result, Ok, Err, refl, sym, subst, ◌∙◌, arith, inl, inr}
use Rattle.std.specs.Prelude.{OnOk, OnErr}
use Rattle.std.specs.List.{range_with_len}
use Rattle.std.proofs.lemmas.Bool.{cases_lt, lt-ltb, le-ltb}
use Rattle.std.proofs.lemmas.List.{ext_get_or}
use Rattle.std.proofs.lemmas.List.FromFn.{length-map-range_with_len, get_or-map-range_with_len}
use Rattle.sqlite_disk.specs.Disk.{Cut, Holds, Mixed, Torn}
use Rattle.journal_tests.specs.Tearing.{MayTear}

-- once all is synced, a crash leaves the file
pub tears-synced : (file left : List ℕ) → MayTear file file left → left ≡ file
tears-synced file left tears = ext_get_or 0 left file tears.len each
  where
    each : (i : ℕ) → i < length left → get_or left i 0 ≡ get_or file i 0
    each i lt = elim (tears.each i (omega (arith, tears.len))) [ inl same ↦ same | inr synced ↦ synced ]

pub torn-refl : (at n : ℕ) (file : List ℕ) → Torn at n file file
torn-refl at n file = record { no_shorter = omega arith; no_longer = omega arith; below = λ i within before. refl; above = λ i within behind. refl }

pub mixed-refl : (at : ℕ) (bytes file : List ℕ) → Mixed at bytes file file
mixed-refl at bytes file = record { torn = torn-refl at (length bytes) file; each = λ i lt within. inl refl }

pub cut-refl : (n : ℕ) (file : List ℕ) → Cut n file file
cut-refl n file = record { no_shorter = omega arith; no_longer = omega arith; below = λ i within before. refl }

-- a list of so many elements by their places
listed : ℕ → (ℕ → ℕ) → List ℕ
listed n f = map f (range_with_len 0 n)

length-listed : (n : ℕ) (f : ℕ → ℕ) → length (listed n f) ≡ n
unfolding listed
length-listed n f = length-map-range_with_len f 0 n

at-listed : (n : ℕ) (f : ℕ → ℕ) (i : ℕ) → i < n → get_or (listed n f) i 0 ≡ f i
unfolding listed
at-listed n f i lt = get_or-map-range_with_len f 0 n i i 0 lt (omega arith)

module _ (old new synced bytes : List ℕ) (at : ℕ) (torn : Torn at (length bytes) old new) (holds : 0 < length bytes → Holds new at bytes) (c : List ℕ) (tears : MayTear new synced c) where
  -- what was left before the write: in its range what was synced, and else what is left now
  before : ℕ → ℕ
  before i = cond (ltb i at) (get_or c i 0) (cond (ltb i (at + length bytes)) (get_or synced i 0) (get_or c i 0))

  before-below : (i : ℕ) → i < at → before i ≡ get_or c i 0
  unfolding before
  before-below i lt = let low : ltb i at ≡ true = lt-ltb _ _ lt in rw low refl

  before-here : (i : ℕ) → at ≤ i → i < at + length bytes → before i ≡ get_or synced i 0
  unfolding before
  before-here i le lt = let low : ltb i at ≡ false = le-ltb _ _ le in let here : ltb i (at + length bytes) ≡ true = lt-ltb _ _ lt in rw (low, here) refl

  before-above : (i : ℕ) → at + length bytes ≤ i → before i ≡ get_or c i 0
  unfolding before
  before-above i le = let low : ltb i at ≡ false = le-ltb _ _ (omega arith) in let here : ltb i (at + length bytes) ≡ false = le-ltb _ _ le in rw (low, here) refl

  pub write_follows : (d : List ℕ) × MayTear old synced d × Mixed at bytes d c
  write_follows = (
    listed (length old) before,
    record { len = length-listed (length old) before; each = each },
    record {
      torn = record {
        no_shorter = omega (arith, length-listed (length old) before, tears.len, torn.no_shorter);
        no_longer = omega (arith, length-listed (length old) before, tears.len, torn.no_longer);
        below = λ i within lt. sym (at-listed (length old) before i (omega (arith, length-listed (length old) before)) ∙ before-below i lt);
        above = λ i within le. sym (at-listed (length old) before i (omega (arith, length-listed (length old) before)) ∙ before-above i le);
      };
      each = here;
    },
  )
    where
      -- a place outside of the range reads as before
      outside : (i : ℕ) → i < length old → get_or new i 0 ≡ get_or old i 0 → before i ≡ get_or c i 0 → (get_or (listed (length old) before) i 0 ≡ get_or old i 0) ⊎ (get_or (listed (length old) before) i 0 ≡ get_or synced i 0)
      outside i lt same is = elim (tears.each i (omega (arith, torn.no_shorter))) [
        | inl read ↦ inl (at-listed (length old) before i lt ∙ is ∙ read ∙ same)
        | inr kept ↦ inr (at-listed (length old) before i lt ∙ is ∙ kept)
      ]

      each : (i : ℕ) → i < length old → (get_or (listed (length old) before) i 0 ≡ get_or old i 0) ⊎ (get_or (listed (length old) before) i 0 ≡ get_or synced i 0)
      each i lt = elim (cases_lt i at) [
        | inl low ↦ outside i lt (torn.below i lt low) (before-below i low)
        | inr le ↦ elim (cases_lt i (at + length bytes)) [
          | inl within ↦ inr (at-listed (length old) before i lt ∙ before-here i le within)
          | inr high ↦ outside i lt (torn.above i lt high) (before-above i high)
        ]
      ]

      here : (i : ℕ) → i < length bytes → at + i < length (listed (length old) before) → (get_or c (at + i) 0 ≡ get_or (listed (length old) before) (at + i) 0) ⊎ (get_or c (at + i) 0 ≡ get_or bytes i 0)
      here i lt within =
          let inside : at + i < length old = omega (arith, length-listed (length old) before) in
          elim (tears.each (at + i) (omega (arith, torn.no_shorter))) [
            | inl read ↦ inr (read ∙ (holds (omega arith)).each i lt)
            | inr kept ↦ inl (kept ∙ sym (at-listed (length old) before (at + i) inside ∙ before-here (at + i) (omega arith) (omega arith)))
          ]

module _ (old new synced : List ℕ) (n : ℕ) (len : length new ≡ n) (cut : Cut n old new) (c : List ℕ) (tears : MayTear new synced c) where
  -- what was left before the change of the length
  uncut : ℕ → ℕ
  uncut i = cond (ltb i n) (get_or c i 0) (get_or old i 0)

  uncut-below : (i : ℕ) → i < n → uncut i ≡ get_or c i 0
  unfolding uncut
  uncut-below i lt = let low : ltb i n ≡ true = lt-ltb _ _ lt in rw low refl

  uncut-above : (i : ℕ) → n ≤ i → uncut i ≡ get_or old i 0
  unfolding uncut
  uncut-above i le = let high : ltb i n ≡ false = le-ltb _ _ le in rw high refl

  pub cut_follows : (d : List ℕ) × MayTear old synced d × Cut n d c
  cut_follows = (
    listed (length old) uncut,
    record { len = length-listed (length old) uncut; each = each },
    record {
      no_shorter = omega (arith, length-listed (length old) uncut, tears.len, len);
      no_longer = omega (arith, length-listed (length old) uncut, tears.len, len);
      below = λ i within lt. sym (at-listed (length old) uncut i (omega (arith, length-listed (length old) uncut)) ∙ uncut-below i lt);
    },
  )
    where
      each : (i : ℕ) → i < length old → (get_or (listed (length old) uncut) i 0 ≡ get_or old i 0) ⊎ (get_or (listed (length old) uncut) i 0 ≡ get_or synced i 0)
      each i lt = elim (cases_lt i n) [
        | inl low ↦ elim (tears.each i (omega (arith, len))) [
          | inl read ↦ inl (at-listed (length old) uncut i lt ∙ uncut-below i low ∙ read ∙ cut.below i lt low)
          | inr kept ↦ inr (at-listed (length old) uncut i lt ∙ uncut-below i low ∙ kept)
        ]
        | inr high ↦ inl (at-listed (length old) uncut i lt ∙ uncut-above i high)
      ]

-- the same where a call may have failed, and then changed nothing
pub write_either : {A E : Type 0} (r : Result A E) (old new synced bytes : List ℕ) (at : ℕ) → OnOk r (Holds new at bytes) → Torn at (length bytes) old new → OnErr r (new ≡ old) → (c : List ℕ) → MayTear new synced c → (d : List ℕ) × MayTear old synced d × Mixed at bytes d c
write_either (Ok x) old new synced bytes at holds torn same c tears = write_follows old new synced bytes at torn (λ some. holds) c tears
write_either (Err e) old new synced bytes at holds torn same c tears = (c, subst (λ (f : List ℕ). MayTear f synced c) same tears, mixed-refl at bytes c)

pub cut_either : {A E : Type 0} (r : Result A E) (old new synced : List ℕ) (n : ℕ) → OnOk r (length new ≡ n) → Cut n old new → OnErr r (new ≡ old) → (c : List ℕ) → MayTear new synced c → (d : List ℕ) × MayTear old synced d × Cut n d c
cut_either (Ok x) old new synced n len cut same c tears = cut_follows old new synced n len cut c tears
cut_either (Err e) old new synced n len cut same c tears = (c, subst (λ (f : List ℕ). MayTear f synced c) same tears, cut-refl n c)
